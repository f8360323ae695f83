pub mod Arrays
pub mod Drives
pub mod Faults
pub mod Starts
