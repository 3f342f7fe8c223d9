pub mod Finding
pub mod Whole
