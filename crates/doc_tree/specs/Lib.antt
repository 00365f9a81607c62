pub mod Answers
pub mod Cleaned
pub mod Printing
pub mod Levels
