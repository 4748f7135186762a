pub mod Table
pub mod Finding
pub mod Found
