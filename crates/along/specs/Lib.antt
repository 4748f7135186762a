pub mod Along
pub mod Gone
