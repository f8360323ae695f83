pub mod Noted
pub mod Rest
