pub mod Going
pub mod Asks
