pub mod Asks
pub mod Statements
