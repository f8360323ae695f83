pub mod Shown
pub mod Figure
pub mod Step
pub mod Private
