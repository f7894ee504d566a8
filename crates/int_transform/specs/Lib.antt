pub mod Bounds
pub mod ChromaQuantizer
pub mod DcBlocks
pub mod Residual
pub mod Scan
