pub mod Quotients
pub mod Wrapping
