pub mod Swapping
pub mod FromBelow
pub mod Spare
