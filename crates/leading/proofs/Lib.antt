pub mod Leading
mod Passing
