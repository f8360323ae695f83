pub mod PartLaws
pub mod FormLaws
pub mod ReadLaws
pub mod NoteLaws
pub mod WalkLaws
pub mod SaidLaws
