pub mod Sound
pub mod Private
