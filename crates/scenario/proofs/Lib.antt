pub mod Closing
pub mod Stepping
pub mod Ending
pub mod OfMap
pub mod Taking
