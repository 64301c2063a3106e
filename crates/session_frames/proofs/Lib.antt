pub mod Routes
pub mod Bodies
pub mod Further
pub mod Messages
pub mod Stays
pub mod Spelled
