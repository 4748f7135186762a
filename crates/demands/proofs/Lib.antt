pub mod Demands
pub mod Nailed
