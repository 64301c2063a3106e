pub mod Book
pub mod Disks
pub mod Kept
