pub mod Bringing
pub mod Paths
