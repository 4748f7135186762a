pub mod Keeping
pub mod Kept
