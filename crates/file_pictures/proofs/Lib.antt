pub mod Payloads
pub mod Kept
pub mod Steps
pub mod OneStep
pub mod Answered
