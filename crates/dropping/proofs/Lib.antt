pub mod Noting
pub mod Trimming
pub mod Looking
