pub mod Everywhere
pub mod Lawful
pub mod Values
pub mod Authority
pub mod Deals
pub mod Locks
pub mod Supply
