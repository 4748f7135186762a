pub mod Tracing
pub mod Passing
pub mod Finding
