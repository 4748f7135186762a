pub mod Telling
pub mod Ordering
pub mod Room
pub mod Determined
pub mod Shortening
pub mod Readying
