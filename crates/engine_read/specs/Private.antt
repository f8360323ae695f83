pub mod Read
pub mod Noted
