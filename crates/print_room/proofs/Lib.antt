pub mod Telling
pub mod Room
pub mod Asked
