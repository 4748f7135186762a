pub mod Reaching
pub mod Full
pub mod Word
