pub mod Sheet
pub mod Sets
pub mod Private
