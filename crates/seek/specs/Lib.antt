pub mod Far
pub mod FromBelow
