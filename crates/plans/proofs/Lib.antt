pub mod Rest
pub mod Found
pub mod Searching
