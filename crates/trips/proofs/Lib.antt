pub mod Worked
pub mod Dropping
pub mod Leaving
pub mod Shortened
pub mod Words
pub mod Naming
pub mod Alternating
pub mod Freeing
