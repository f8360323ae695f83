pub mod Keep
pub mod Steps
pub mod Asked
