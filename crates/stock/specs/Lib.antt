pub mod Kept
pub mod Tables
pub mod Places
pub mod Promises
