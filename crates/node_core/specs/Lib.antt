pub mod Journals
pub mod Disks
pub mod Idle
pub mod Seen
pub mod Takes
pub mod States
pub mod Claims
