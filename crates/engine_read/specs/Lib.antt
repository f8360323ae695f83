pub mod Said
pub mod Lines
pub mod Private
pub mod Whole
