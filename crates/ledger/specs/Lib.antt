pub mod Ranks
pub mod Answers
pub mod Kept
pub mod Posting
pub mod Settling
