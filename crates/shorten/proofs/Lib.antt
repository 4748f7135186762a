pub mod Saying
pub mod Determined
pub mod Rooms
