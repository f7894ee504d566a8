pub mod Calls
pub mod Tasks
pub mod Keeping
pub mod Leaving
pub mod Places
pub mod Renaming
pub mod Surfaces
pub mod Within
