pub mod Editions
pub mod Fields
