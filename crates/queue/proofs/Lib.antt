pub mod Places
pub mod Queueing
pub mod Words
pub mod Passing
pub mod Reading
