pub mod StepLaws
pub mod ExactLaws
