pub mod Blocks
pub mod Coefficients
pub mod Levels
pub mod Parts
pub mod Turns
