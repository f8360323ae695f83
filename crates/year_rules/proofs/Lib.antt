pub mod FigureLaws
pub mod BoardLaws
pub mod BoundLaws
pub mod AddedLaws
mod BoundTests
