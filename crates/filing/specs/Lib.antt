pub mod Filing
pub mod Ordered
