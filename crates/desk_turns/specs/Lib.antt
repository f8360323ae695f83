pub mod Turns
pub mod Private
