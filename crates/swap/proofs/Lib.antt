pub mod Committing
pub mod Besides
pub mod FromBelow
