pub mod Odd
pub mod Ordering
