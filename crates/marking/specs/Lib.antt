pub mod Begun
pub mod HeaderInfo
pub mod Frames
pub mod History
pub mod Operations
pub mod OrderCounts
