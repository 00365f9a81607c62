pub mod Pages
pub mod Pairs
pub mod Keeping
