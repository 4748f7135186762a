pub mod Saying
pub mod Determined
