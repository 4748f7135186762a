pub mod Handing
pub mod Plans
