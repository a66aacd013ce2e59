pub mod Between
pub mod Checked
pub mod Closed
pub mod Shown
pub mod Text
pub mod Whole
