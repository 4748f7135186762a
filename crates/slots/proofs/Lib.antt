pub mod Passing
pub mod Writing
pub mod Reaching
