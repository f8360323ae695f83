pub mod Mode
pub mod Private
