pub mod Beside
pub mod Vacating
pub mod Answers
