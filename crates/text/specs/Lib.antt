pub mod Bytes
pub mod Number
pub mod Line
pub mod Put
pub mod Private
