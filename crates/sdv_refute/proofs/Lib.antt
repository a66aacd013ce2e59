pub mod Refuted
pub mod Judged
pub mod Named
pub mod WatchedRun
pub mod ToldRun
pub mod SeenRun
pub mod SimShown
