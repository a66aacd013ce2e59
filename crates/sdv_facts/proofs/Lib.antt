pub mod AddressLaws
pub mod AnyStart
pub mod ArgumentLaws
pub mod BootLaws
pub mod EdgeLaws
pub mod FlagLaws
mod GapLaws
pub mod Headline
pub mod InternLaws
pub mod LetLaws
mod Probes
pub mod RegisterLaws
pub mod RunLaws
pub mod SetLaws
pub mod SharedLaws
pub mod SoundLaws
pub mod StartLaws
mod StatementLaws
pub mod StepLaws
pub mod SuitLaws
mod TableLaws
pub mod TestLaws
pub mod UnitLaws
pub mod VariableLaws
pub mod WayLaws
