pub mod Levelling
pub mod Leading
pub mod Looking
