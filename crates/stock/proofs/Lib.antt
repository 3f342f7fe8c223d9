pub mod Keeping
pub mod Purchases
pub mod Draws
