mod Asked
mod FiveWords
mod GoodWords
mod Marks
mod OptionValues
pub mod Splitting
