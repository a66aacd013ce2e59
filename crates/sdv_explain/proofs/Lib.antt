pub mod EdgeLaws
pub mod EachLaws
pub mod TargetLaws
pub mod MemberLaws
pub mod FoundLaws
pub mod MetLaws
pub mod NextLaws
pub mod SearchLaws
pub mod ExplainedLaws
pub mod StandLaws
mod RefusedLaws
mod KnownLaws
mod FailingLaws
pub mod LineLaws
pub mod MisfitLaws
mod ScheduleLaws
mod PieceLaws
