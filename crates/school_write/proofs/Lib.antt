pub mod SignedLaws
pub mod LineLaws
pub mod TickLaws
pub mod TextLaws
