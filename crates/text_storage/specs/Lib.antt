pub mod Kept
pub mod Number
