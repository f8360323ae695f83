pub mod Said
pub mod Entries
pub mod Rules
