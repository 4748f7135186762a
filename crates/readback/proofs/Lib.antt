pub mod Folding
pub mod Giving
pub mod RoundTrip
