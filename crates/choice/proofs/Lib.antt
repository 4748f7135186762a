pub mod Counting
pub mod Taking
