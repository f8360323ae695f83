pub mod WalkLaws
pub mod FollowLaws
pub mod AskLaws
pub mod WhyLaws
