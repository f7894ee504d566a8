pub mod Onward
pub mod OneDecoded
pub mod OneReading
pub mod OneNext
pub mod SettledFirst
