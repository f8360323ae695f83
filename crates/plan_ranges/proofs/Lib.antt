pub mod ItemLaws
pub mod RangeLaws
