mod Seeing
pub mod Fresh
