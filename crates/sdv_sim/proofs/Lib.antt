pub mod MadeLaws
pub mod DigitLaws
