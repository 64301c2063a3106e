pub mod Journals
pub mod Fits
pub mod Seen
pub mod Traces
