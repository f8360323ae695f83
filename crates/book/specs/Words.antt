pub mod Sized
pub mod Event
