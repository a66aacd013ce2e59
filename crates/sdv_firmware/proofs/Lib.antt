pub mod Formed
pub mod Names
