pub mod Answering
pub mod Planning
pub mod Turns
pub mod Weighing
