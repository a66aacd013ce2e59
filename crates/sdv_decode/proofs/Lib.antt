pub mod CourseLaws
pub mod LineLaws
pub mod ReadLaws
pub mod StepLaws
pub mod LinedLaws
