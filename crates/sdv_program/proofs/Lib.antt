pub mod CommandLineLaws
pub mod WordsGiven
pub mod OutcomeLaws
pub mod OutputLaws
pub mod StartLaws
mod UsesLaws
