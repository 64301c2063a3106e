pub mod Client
pub mod ClientLaws
pub mod Service
pub mod ServiceLaws
