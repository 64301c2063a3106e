pub mod Basics
pub mod Lists
pub mod Steps
pub mod Enabled
pub mod Runs
pub mod Numbers
pub mod Growth
pub mod Effects
pub mod Local
pub mod Merging
pub mod Faithful
pub mod Commits
pub mod Recorded
pub mod Booked
pub mod Passing
pub mod Acts
pub mod Coins
pub mod Fitting
pub mod Sound
pub mod Totals
pub mod Falling
pub mod LeftFalls
pub mod Holding
pub mod HoldsKept
pub mod Proven
pub mod Spent
pub mod BookKept
mod Ordered
mod Kept
mod Stamps
mod Came
mod Rows
