pub mod Reading
pub mod Checked
