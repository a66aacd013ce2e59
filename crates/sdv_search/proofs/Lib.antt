pub mod LossLaws
pub mod RefutedLaws
pub mod SweptLaws
