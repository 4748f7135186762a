pub mod Meeting
pub mod Lowest
pub mod Rolling
pub mod Trains
pub mod OnePass
pub mod Printing
