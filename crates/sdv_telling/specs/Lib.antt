pub mod Cards
pub mod Guards
pub mod Numbered
pub mod Places
pub mod Quoted
pub mod Statements
