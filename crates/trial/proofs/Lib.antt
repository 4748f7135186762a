pub mod Attempting
pub mod Copying
pub mod FromBelow
