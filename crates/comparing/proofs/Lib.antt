pub mod Differing
pub mod Exchanged
pub mod Counting
pub mod Saying
pub mod Handing
pub mod Compared
