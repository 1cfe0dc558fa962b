pub mod Once
pub mod Weights
