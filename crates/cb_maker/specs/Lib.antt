pub mod Blocks
pub mod Draws
pub mod Kinds
pub mod Macroblocks
pub mod Slices
pub mod Stream
