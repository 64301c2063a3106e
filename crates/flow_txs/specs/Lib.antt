pub mod Words
pub mod Kinds
pub mod Making
pub mod MakingLaws
pub mod Finding
pub mod FindingLaws
pub mod Concluding
pub mod ConcludingLaws
