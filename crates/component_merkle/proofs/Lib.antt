mod Folding
mod Padding
pub mod Rooted
