pub mod Roots
pub mod Numbered
