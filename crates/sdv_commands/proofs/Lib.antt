mod AnnouncingLaws
mod AuditLaws
mod BatchWordsLaws
mod CertifyLaws
mod CheckLaws
mod DecodeLaws
mod EmitLaws
mod EndsLaws
mod ExplainLaws
mod FrameTextLaws
mod GraphLaws
mod ReportLaws
mod ScriptFaultLaws
mod TracedLaws
pub mod AskedLaws
pub mod BesideLaws
pub mod CardLaws
pub mod DigitLaws
pub mod DriveLaws
pub mod GivenLaws
pub mod LimitLaws
pub mod RegisterLaws
pub mod RunLaws
pub mod RunMaps
pub mod ScheduleLaws
pub mod ServedMaps
pub mod TakenLaws
pub mod TalkLaws
pub mod TryLaws
pub mod SweepLaws
mod VerifyLaws
