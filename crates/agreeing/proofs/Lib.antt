pub mod Standing
mod Worked
pub mod Refusing
mod Comparing
