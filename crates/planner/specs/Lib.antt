pub mod Statement
pub mod Planned
