pub mod Available
pub mod Chroma
pub mod Luma16
pub mod Luma4
pub mod Means
pub mod Plane
pub mod Sides
