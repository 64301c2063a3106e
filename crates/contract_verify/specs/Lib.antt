pub mod Refusals
pub mod Naming
