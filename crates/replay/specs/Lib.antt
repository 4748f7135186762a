pub mod Playing
pub mod Legality
pub mod Away
