pub mod View
pub mod Sound
pub mod Open
pub mod Report
pub mod Drop
pub mod Early
pub mod Words
pub mod Private
