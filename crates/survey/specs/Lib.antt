pub mod Survey
pub mod Bytes
pub mod Narrow
