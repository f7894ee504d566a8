pub mod NarrowSums
pub mod Pixels
pub mod WideSums
