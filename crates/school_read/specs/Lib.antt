pub mod Private
pub mod Found
