pub mod Asked
pub mod Turns
pub mod Does
pub mod Readings
