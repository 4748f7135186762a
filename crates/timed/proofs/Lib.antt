pub mod Back
pub mod Determined
