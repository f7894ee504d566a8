pub mod Chroma
pub mod Luma
pub mod Parts
pub mod Places
pub mod Rows
pub mod Weights
pub mod Windows
