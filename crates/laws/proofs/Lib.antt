pub mod Firsts
pub mod Handing
pub mod WayHome
pub mod Logging
pub mod Digits
pub mod Lines
pub mod Printing
pub mod Railing
