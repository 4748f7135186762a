pub mod Opening
pub mod Determined
