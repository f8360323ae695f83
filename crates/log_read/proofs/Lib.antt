pub mod SaidLaws
pub mod EntryLaws
pub mod TextLaws
pub mod RuleLaws
pub mod KindLaws
