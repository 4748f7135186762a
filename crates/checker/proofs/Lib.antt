pub mod NineTen
pub mod Six
pub mod Back
