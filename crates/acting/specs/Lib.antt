pub mod Acting
pub mod Tried
