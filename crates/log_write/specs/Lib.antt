pub mod Lines
pub mod Answers
pub mod Short
pub mod Private
