pub mod Functions
pub mod Closures
