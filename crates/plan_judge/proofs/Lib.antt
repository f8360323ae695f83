pub mod DriveLaws
pub mod FaultLaws
pub mod ItemLaws
pub mod OrderLaws
pub mod PairLaws
pub mod PlaceLaws
pub mod StartLaws
pub mod ValueLaws
