pub mod Lines
pub mod Log
pub mod Answers
pub mod Private
