pub mod Pages
pub mod Correct
