pub mod WriteLaws
pub mod RunLaws
