pub mod Judged
pub mod Allowed
pub mod Told
