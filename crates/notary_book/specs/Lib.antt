pub mod Agreement
pub mod Booked
pub mod Causes
pub mod Indexed
