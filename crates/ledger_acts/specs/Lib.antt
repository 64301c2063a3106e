pub mod Acts
pub mod Jobs
pub mod Picking
