pub mod Images
pub mod MemBlocks
pub mod Buffers
pub mod FileImages
pub mod Orders
pub mod Refused
