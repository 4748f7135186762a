mod Agreeing
pub mod Opened
mod Reporting
pub mod Lent
pub mod Chained
pub mod Determined
