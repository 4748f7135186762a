pub mod SetOut
