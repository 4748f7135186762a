pub mod Reading
pub mod Earlier
