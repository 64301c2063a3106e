pub mod Found
pub mod Limits
pub mod Ordered
pub mod Resolving
