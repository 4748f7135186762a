pub mod Shortening
pub mod Billing
pub mod Verdicts
pub mod Comparing
pub mod Linking
pub mod Reading
