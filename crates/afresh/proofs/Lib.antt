pub mod Passing
pub mod Highest
pub mod Leading
pub mod Asking
pub mod Working
