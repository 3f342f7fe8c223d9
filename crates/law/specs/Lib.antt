pub mod Histories
pub mod Amounts
pub mod Reductions
pub mod Laws
pub mod Records
pub mod Worked
