pub mod Seeking
pub mod FromBelow
