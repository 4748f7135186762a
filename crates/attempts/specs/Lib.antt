pub mod Attempting
pub mod Asking
pub mod FromBelow
