pub mod Bounds
pub mod Stages
pub mod Sums
