pub mod Enough
pub mod Prefix
