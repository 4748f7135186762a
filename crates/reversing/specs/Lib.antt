pub mod Reversing
pub mod Statement
