pub mod Judging
pub mod Lawful
pub mod Items
pub mod Sending
pub mod Agreement
