pub mod ChromaFormat
pub mod Lending
pub mod Picture
pub mod SampleArray
pub mod Tiles
