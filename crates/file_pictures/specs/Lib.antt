pub mod Streams
pub mod Offers
