pub mod Accepted
pub mod Parts
pub mod Pps
pub mod Sps
