pub mod Ids
pub mod Receiver
pub mod ReceiverLaws
pub mod Resolve
pub mod ResolveLaws
