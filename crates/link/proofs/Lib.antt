pub mod Standing
pub mod Calling
pub mod Making
pub mod Linked
