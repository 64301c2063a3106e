pub mod Awaiting
pub mod Going
pub mod Idle
pub mod Ready
