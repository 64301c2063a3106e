pub mod Holdings
pub mod Faults
