pub mod Bodies
pub mod Frames
pub mod Routes
pub mod Sessions
pub mod Rules
