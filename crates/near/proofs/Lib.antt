pub mod Seeking
pub mod Foreseeing
pub mod FromBelow
