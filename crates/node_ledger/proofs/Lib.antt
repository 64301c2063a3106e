pub mod Ruled
pub mod Adding
