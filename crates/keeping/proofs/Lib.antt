pub mod Keeping
pub mod Around
