pub mod Files
pub mod Words
pub mod Orders
