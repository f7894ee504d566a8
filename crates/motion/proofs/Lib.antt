pub mod PartitionLemmas
pub mod VectorLemmas
