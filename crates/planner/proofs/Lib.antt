pub mod Determined
pub mod Letting
pub mod Saying
