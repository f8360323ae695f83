pub mod Report
pub mod Private
