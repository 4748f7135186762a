pub mod Behind
pub mod Saying
pub mod Left
