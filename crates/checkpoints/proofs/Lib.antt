pub mod Live
pub mod Places
pub mod Items
