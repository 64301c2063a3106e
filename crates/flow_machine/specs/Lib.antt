pub mod Stacks
pub mod Machine
pub mod Limits
pub mod Flows
pub mod Tags
pub mod Unnamed
pub mod Acts
pub mod Checkpoints
