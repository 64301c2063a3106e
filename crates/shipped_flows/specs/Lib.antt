pub mod Count
pub mod Ping
pub mod Probe
pub mod Echo
pub mod Shipped
pub mod Meeting
pub mod MeetingLaws
