pub mod Neighbours
pub mod Prediction
