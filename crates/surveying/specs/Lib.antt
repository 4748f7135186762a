pub mod Says
pub mod Tested
