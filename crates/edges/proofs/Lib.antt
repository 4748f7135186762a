pub mod Parts
pub mod Stepping
pub mod Storing
