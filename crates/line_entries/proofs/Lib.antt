pub mod Numbers
pub mod Pieces
