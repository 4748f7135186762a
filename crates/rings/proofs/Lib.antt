pub mod Searching
pub mod Reading
pub mod Between
pub mod Narrowing
