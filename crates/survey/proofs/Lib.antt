pub mod Stepping
pub mod Words
pub mod Written
pub mod Broken
pub mod Three
pub mod Worked
