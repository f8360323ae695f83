mod Lines
pub mod StartLaws
