pub mod Limits
pub mod Postings
pub mod Booking
pub mod Weighing
pub mod Balances
pub mod Rows
pub mod Ranges
pub mod Stages
