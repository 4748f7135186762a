pub mod Handing
pub mod FromBelow
pub mod Counted
