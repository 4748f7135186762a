pub mod Editions
pub mod Statement
