pub mod Link
pub mod Said
