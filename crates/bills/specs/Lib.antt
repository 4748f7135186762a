pub mod Billing
pub mod Answering
pub mod Keeping
pub mod Demand
