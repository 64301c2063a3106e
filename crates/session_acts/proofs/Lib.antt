pub mod Fitting
pub mod Limits
pub mod Meant
pub mod Owning
