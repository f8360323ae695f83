pub mod Figures
pub mod Totals
