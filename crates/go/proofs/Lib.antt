pub mod Going
pub mod FromBelow
