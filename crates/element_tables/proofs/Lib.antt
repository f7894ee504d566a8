pub mod OneElement
pub mod Repeats
pub mod Rules
pub mod Tables
pub mod Unique
