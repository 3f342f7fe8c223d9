pub mod Firsts
pub mod Nested
pub mod Tests
pub mod Slips
pub mod Lending
