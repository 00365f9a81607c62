pub mod Arrays
pub mod Digits
pub mod Faults
