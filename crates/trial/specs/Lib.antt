pub mod Trying
pub mod FromBelow
