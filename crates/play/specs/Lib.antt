pub mod Playing
pub mod FromBelow
