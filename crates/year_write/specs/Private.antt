pub mod Tails
pub mod Bests
