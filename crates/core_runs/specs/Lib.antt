pub mod Deeds
pub mod Histories
