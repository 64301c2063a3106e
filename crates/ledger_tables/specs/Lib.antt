pub mod Ledgers
