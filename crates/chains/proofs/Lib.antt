pub mod Linking
pub mod Skipping
pub mod Filling
