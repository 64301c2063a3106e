pub mod Given
pub mod Again
