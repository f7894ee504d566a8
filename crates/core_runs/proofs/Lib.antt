pub mod Lists
pub mod Jobs
pub mod Runs
pub mod Deeds
