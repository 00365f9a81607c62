pub mod Sizes
pub mod Notes
