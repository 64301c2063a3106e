pub mod Stepped
pub mod Histories
pub mod Gathering
pub mod Filling
pub mod Ended
pub mod Crossing
