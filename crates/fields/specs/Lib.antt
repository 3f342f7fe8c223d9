pub mod Results
pub mod Decimal
pub mod Numbers
pub mod Dates
pub mod Spots
pub mod Quoted
pub mod Denotes
