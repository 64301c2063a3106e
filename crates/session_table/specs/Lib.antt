pub mod Changes
pub mod Kept
pub mod Tables
pub mod Owned
pub mod Waiting
