pub mod Events
pub mod Unready
pub mod Lines
pub mod Orders
pub mod Times
