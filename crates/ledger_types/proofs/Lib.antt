mod Leaves
mod Rows
pub mod Sizes
pub mod Names
pub mod Coins
pub mod Once
