pub mod ToldLaws
pub mod PairLaws
pub mod TestLaws
pub mod FoundLaws
pub mod JudgeLaws
