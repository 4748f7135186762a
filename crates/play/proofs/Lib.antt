pub mod Playing
pub mod Levelling
