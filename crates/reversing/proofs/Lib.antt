pub mod Backwards
pub mod Passing
pub mod HighestSlot
pub mod Saying
pub mod Determined
pub mod Rollback
