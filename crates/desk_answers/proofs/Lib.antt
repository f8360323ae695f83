pub mod KnownLaws
pub mod LineLaws
pub mod AnswerLaws
pub mod ChainLaws
pub mod DriveLaws
