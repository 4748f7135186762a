pub mod Numbering
pub mod RailEnds
pub mod Good
pub mod OfMap
