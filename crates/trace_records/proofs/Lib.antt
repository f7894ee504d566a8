mod Joined
pub mod OwnBytes
mod Sorting
mod Traces
