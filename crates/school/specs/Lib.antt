pub mod Lines
pub mod Said
pub mod Tasks
pub mod Tests
pub mod Text
