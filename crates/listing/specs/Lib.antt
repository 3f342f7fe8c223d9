pub mod Figures
pub mod Lines
