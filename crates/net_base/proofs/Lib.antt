pub mod Items
pub mod Written
pub mod Stamps
pub mod Whole
mod NumberLemmas
mod Sets
mod Members
pub mod Lists
pub mod Options
