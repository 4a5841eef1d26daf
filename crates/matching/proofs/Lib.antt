pub mod WordLaws
pub mod SearchLaws
pub mod StepLaws
