pub mod Numbered
pub mod Days
pub mod Parts
pub mod Commodities
pub mod Accounts
pub mod Under
