pub mod Told
pub mod Known
