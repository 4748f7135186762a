pub mod Firsts
pub mod Rails
pub mod Places
