pub mod Year
pub mod Says
