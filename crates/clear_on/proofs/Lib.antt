pub mod Attempting
pub mod FromBelow
