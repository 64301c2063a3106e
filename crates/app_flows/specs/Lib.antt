pub mod Opening
pub mod Frames
pub mod Machines
pub mod Words
pub mod Table
pub mod Seen
pub mod Laws
