pub mod Sums
pub mod Matching
pub mod Places
pub mod Drawing
pub mod Drawn
