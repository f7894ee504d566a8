pub mod Events
pub mod Files
pub mod Laws
pub mod Walks
