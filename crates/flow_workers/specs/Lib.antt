pub mod Desks
pub mod Steps
pub mod Gathers
pub mod Stages
pub mod Ends
