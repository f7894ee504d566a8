pub mod AcceptedInfo
pub mod Blocks
pub mod Neighbours
pub mod References
pub mod SizeMbs
pub mod Slices
