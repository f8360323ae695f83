pub mod Judged
pub mod Laid
pub mod Moments
pub mod ToldOf
