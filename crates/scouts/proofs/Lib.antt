pub mod Scouting
pub mod Sending
pub mod Foreseeing
