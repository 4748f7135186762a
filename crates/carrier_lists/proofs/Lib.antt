pub mod Counting
pub mod Stored
