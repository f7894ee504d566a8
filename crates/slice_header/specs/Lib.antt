pub mod AcceptedSlices
pub mod Conditions
pub mod Headers
pub mod Lists
pub mod Parts
pub mod Spelling
