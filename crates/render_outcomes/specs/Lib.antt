pub mod Bytes
pub mod Constructions
pub mod Outcomes
