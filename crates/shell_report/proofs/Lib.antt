pub mod Heads
pub mod Lines
pub mod Places
pub mod Tokens
