pub mod NamedWords
pub mod Program
pub mod Script
