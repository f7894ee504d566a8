pub mod Nearest
pub mod Rects
pub mod Samples
pub mod TilePlaces
pub mod OnePicture
