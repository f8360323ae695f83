pub mod Judged
pub mod Year
