pub mod Comparing
pub mod Statements
pub mod Counted
