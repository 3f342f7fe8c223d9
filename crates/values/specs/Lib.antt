pub mod Amounts
pub mod Calendar
pub mod Flags
pub mod Names
pub mod Spelling
