pub mod Rest
pub mod Renaming
pub mod Buffers
pub mod Making
pub mod Handles
