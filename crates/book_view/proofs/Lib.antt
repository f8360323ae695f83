pub mod Accepted
pub mod Blank
pub mod Laid
pub mod Short
pub mod Turns
