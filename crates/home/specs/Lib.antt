pub mod Homing
pub mod FromBelow
pub mod Staged
