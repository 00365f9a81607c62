pub mod Arrays
pub mod Receivers
