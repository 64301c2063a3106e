pub mod Calls
pub mod Lasting
pub mod Works
pub mod Passages
