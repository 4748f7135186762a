pub mod Carrying
pub mod FromBelow
