pub mod Signing
pub mod Locks
pub mod Facts
pub mod Ious
