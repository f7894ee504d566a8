pub mod Count
pub mod Shelf
pub mod Memory
pub mod Edge
