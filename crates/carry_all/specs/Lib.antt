pub mod Serving
pub mod FromBelow
