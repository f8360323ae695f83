pub mod Computing
pub mod Judged
pub mod Year
