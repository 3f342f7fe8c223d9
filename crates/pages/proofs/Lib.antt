pub mod Appending
pub mod Placed
pub mod Reading
