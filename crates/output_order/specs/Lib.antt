pub mod Held
pub mod OutputOrder
pub mod Waiting
