pub mod Playing
pub mod Shifting
pub mod Stretches
