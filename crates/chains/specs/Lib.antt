pub mod Links
pub mod Asking
