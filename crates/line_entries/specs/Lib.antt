pub mod Entries
pub mod Steps
pub mod Figure
