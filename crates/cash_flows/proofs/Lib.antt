pub mod Taken
pub mod Value
pub mod Accepting
pub mod Reserving
pub mod Issuing
pub mod Exiting
pub mod Spending
