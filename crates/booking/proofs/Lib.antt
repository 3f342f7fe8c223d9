pub mod Worked
pub mod Passing
pub mod Blanks
pub mod Drafts
pub mod Filling
