pub mod Ranges
pub mod Summing
pub mod Within
