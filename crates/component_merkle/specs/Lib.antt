pub mod Merkle
pub mod Levels
