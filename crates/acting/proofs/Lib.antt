pub mod Acting
pub mod Junctions
pub mod Holding
pub mod Lending
pub mod FromBelow
