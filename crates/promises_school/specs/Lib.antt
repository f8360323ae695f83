pub mod Own
pub mod Lines
pub mod Judged
