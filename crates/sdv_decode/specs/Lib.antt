pub mod Lines
pub mod Matches
pub mod LineWords
pub mod Decoded
pub mod Room
pub mod Steps
pub mod Lined
pub mod Beside
