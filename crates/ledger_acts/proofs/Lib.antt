pub mod Choosing
pub mod Concluded
pub mod Judging
pub mod Meant
pub mod Waiting
