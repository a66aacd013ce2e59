pub mod Masks
pub mod FieldLaws
pub mod ByteLaws
pub mod FlagLaws
