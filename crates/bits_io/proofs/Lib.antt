pub mod Counts
pub mod Interleaved
pub mod Same
