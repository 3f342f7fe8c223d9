pub mod Weights
pub mod Sizes
