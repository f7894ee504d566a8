pub mod BlockLemmas
pub mod CodeLemmas
pub mod CoefficientLemmas
pub mod ElementLemmas
pub mod LevelLemmas
pub mod OnesLemmas
pub mod PartLemmas
pub mod RunLemmas
pub mod SameLemmas
pub mod SizeLemmas
pub mod TurnLemmas
pub mod WordLemmas
mod Worked
