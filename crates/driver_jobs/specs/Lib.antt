pub mod Ready
pub mod Renders
pub mod Mixes
pub mod Units
