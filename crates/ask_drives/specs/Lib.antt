pub mod Sheets
pub mod Seen
