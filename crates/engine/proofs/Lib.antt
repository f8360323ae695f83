pub mod LengthLaws
pub mod FillLaws
pub mod TimetableLaws
