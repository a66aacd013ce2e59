pub mod Answers
pub mod Controlled
pub mod Keeps
pub mod Noise
pub mod KeepsOverNoise
pub mod Wire
