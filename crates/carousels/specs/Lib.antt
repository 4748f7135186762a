pub mod Round
pub mod Leads
pub mod Order
pub mod Due
