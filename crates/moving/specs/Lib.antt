pub mod Bounds
pub mod Placed
