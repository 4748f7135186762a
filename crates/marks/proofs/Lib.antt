pub mod Telling
pub mod Back
