pub mod Tests
pub mod Tested
pub mod Private
