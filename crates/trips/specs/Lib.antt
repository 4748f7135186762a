pub mod Trips
pub mod Names
pub mod Shortening
