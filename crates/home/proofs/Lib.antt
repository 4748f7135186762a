pub mod Settling
pub mod Homing
pub mod FromBelow
