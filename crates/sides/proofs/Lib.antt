pub mod Numbers
pub mod Rows
pub mod Counted
pub mod Left
