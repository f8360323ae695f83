pub mod TallyLaws
pub mod AddLaws
