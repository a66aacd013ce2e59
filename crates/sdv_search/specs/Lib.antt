pub mod Losses
pub mod Refuted
pub mod Swept
pub mod Table
