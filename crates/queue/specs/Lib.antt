pub mod Meeting
pub mod Queue
