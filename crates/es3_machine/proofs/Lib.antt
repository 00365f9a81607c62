pub mod Steps
pub mod Answers
pub mod Started
pub mod Kept
