pub mod ByteOrder
pub mod Laws
