pub mod Going
pub mod Asking
pub mod Pair
