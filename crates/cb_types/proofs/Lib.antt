pub mod InfoFacts
pub mod NeighbourLemmas
