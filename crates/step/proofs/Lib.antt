pub mod Stepping
pub mod Aside
pub mod Settling
pub mod FromBelow
