pub mod Items
pub mod Private
pub mod Faults
pub mod Said
