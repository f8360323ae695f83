pub mod Lines
pub mod Private
