pub mod Count
pub mod Last
pub mod Rise
pub mod Noted
pub mod Nonzero
