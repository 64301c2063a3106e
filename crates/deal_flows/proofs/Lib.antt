pub mod Telling
pub mod Owing
