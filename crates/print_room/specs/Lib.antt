pub mod Short
pub mod Whole
pub mod Printout
pub mod Ready
