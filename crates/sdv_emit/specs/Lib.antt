pub mod CText
pub mod Emitted
pub mod Identifier
pub mod Reading
