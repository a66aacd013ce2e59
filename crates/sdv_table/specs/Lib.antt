pub mod Fits
pub mod Loading
pub mod Reading
pub mod Row
pub mod Sending
pub mod Table
