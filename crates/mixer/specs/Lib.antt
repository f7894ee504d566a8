pub mod Colours
pub mod Mixed
