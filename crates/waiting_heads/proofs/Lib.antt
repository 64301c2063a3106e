pub mod Each
pub mod Turns
