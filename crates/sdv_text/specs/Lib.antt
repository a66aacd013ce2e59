pub mod Fronts
pub mod Number
pub mod Written
