pub mod Passes
pub mod Wire
