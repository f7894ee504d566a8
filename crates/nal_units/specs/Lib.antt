pub mod Units
pub mod Settled
pub mod Finder
pub mod ByteStream
