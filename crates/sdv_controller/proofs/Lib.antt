pub mod Silent
mod Undamaged
