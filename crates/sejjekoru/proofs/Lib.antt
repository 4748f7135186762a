pub mod Determined
mod Saying
pub mod Opened
pub mod Billing
pub mod Passing
pub mod Billed
pub mod Compared
pub mod Placed
mod Handed
pub mod Linked
pub mod Alike
