pub mod Scouts
