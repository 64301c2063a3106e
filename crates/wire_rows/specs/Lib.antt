pub mod Rows
pub mod Exchanges
pub mod Ends
