pub mod Reduces
pub mod Finds
pub mod Sums
pub mod Drawing
pub mod Uniques
pub mod Earliest
pub mod Steps
pub mod Splits
