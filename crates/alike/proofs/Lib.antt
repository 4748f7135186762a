pub mod Tracks
pub mod Agreeing
pub mod Swaps
