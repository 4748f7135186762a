pub mod Entries
pub mod Steps
pub mod Files
pub mod Found
