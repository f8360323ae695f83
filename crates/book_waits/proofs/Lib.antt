pub mod ListLaws
pub mod SetLaws
pub mod WaitLaws
