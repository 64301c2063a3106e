pub mod Ledgered
