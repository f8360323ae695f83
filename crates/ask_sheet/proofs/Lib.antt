pub mod Numbers
pub mod Lines
pub mod Rows
pub mod Renewed
pub mod Seen
pub mod Turns
