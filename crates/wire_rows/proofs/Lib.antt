pub mod Drains
pub mod Joins
pub mod Moved
pub mod Spreading
pub mod Steps
