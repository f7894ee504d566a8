pub mod Found
pub mod Laws
pub mod Places
pub mod Ranges
pub mod Records
pub mod Traces
