pub mod Around
pub mod Border
pub mod Kinds
pub mod Partitions
pub mod Vectors
