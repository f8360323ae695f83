pub mod CodeLaws
pub mod EarlyLaws
