pub mod Lines
pub mod FoundLine
