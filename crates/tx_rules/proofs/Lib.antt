pub mod Listing
pub mod Repeats
pub mod Signed
