pub mod Name
pub mod Slots
pub mod Handles
pub mod Given
pub mod Fault
pub mod Sound
pub mod Lends
