pub mod Turns
pub mod Cases
