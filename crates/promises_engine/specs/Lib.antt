pub mod Says
pub mod LengthsSays
