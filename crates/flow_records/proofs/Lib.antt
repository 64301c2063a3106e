pub mod Whole
pub mod Sizes
pub mod Meaning
pub mod Checkpoints
pub mod Stepping
pub mod Lengths
