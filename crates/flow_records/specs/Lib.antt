pub mod Records
pub mod Alone
pub mod Spelling
pub mod Telling
pub mod Steps
