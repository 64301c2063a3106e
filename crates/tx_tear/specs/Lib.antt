pub mod Tearing
pub mod Telling
pub mod Limits
pub mod Hashed
pub mod Agreement
