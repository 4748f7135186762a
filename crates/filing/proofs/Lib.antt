pub mod Joining
pub mod Fitting
