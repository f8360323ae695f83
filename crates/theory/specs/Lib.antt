pub mod Plan
pub mod Book
pub mod Report
pub mod Figure
pub mod Words
pub mod Times
pub mod Exact
pub mod Chain
