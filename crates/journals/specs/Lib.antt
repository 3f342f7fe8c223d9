pub mod Places
pub mod Answers
pub mod Accepted
pub mod Methods
