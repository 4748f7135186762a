pub mod Levels
pub mod Raising
