pub mod Fuses
