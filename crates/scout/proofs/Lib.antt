pub mod Going
pub mod Fronts
