pub mod Answering
pub mod Once
pub mod Caused
pub mod Places
pub mod Refused
pub mod Agreeing
