pub mod Options
pub mod Decimals
pub mod Denotations
pub mod Amounts
pub mod Days
pub mod Quotations
