pub mod Writes
pub mod Room
