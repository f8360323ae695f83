pub mod TaskLaws
pub mod LineLaws
pub mod LineInLaws
pub mod SaidLaws
pub mod NoteLaws
pub mod WalkLaws
pub mod WholeLaws
