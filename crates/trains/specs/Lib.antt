pub mod Slots
pub mod Rules
pub mod Rolling
pub mod OnePass
pub mod Print
