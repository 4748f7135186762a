pub mod Search
pub mod Ways
pub mod Widening
pub mod Path
pub mod Way
