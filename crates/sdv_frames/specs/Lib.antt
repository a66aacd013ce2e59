pub mod Bits
pub mod Polynomial
pub mod Frame
pub mod Fault
