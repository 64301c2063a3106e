pub mod Agree
pub mod AgreeLaws
pub mod Finality
pub mod FinalityLaws
pub mod Tagging
