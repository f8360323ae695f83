pub mod Waits
pub mod Private
