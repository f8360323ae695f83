pub mod Lettered
pub mod Place
