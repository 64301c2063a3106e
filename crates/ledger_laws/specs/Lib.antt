pub mod Ledgers
pub mod Windows
pub mod Places
