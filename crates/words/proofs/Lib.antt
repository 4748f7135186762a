pub mod Bits
pub mod Sets
pub mod Loops
pub mod Besides
pub mod Meeting
