pub mod Library
pub mod Parts
pub mod Spell
pub mod Store
pub mod Numerals
