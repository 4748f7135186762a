pub mod Letters
pub mod Layout
pub mod Taken
pub mod Sides
