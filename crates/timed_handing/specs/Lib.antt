pub mod Timed
pub mod Handing
