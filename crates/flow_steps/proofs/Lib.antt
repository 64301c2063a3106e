pub mod Limits
pub mod Picks
pub mod Firsts
pub mod Idles
pub mod Performs
pub mod Commits
pub mod Jobs
