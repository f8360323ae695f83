pub mod Lent
pub mod Chained
pub mod Why
pub mod Asked
pub mod Private
