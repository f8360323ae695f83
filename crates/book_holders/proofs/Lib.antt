pub mod ClashLaws
pub mod HoldLaws
