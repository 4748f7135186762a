pub mod Worked
pub mod Harder
pub mod Read
