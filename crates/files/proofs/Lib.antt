pub mod Fronts
pub mod PathLaws
