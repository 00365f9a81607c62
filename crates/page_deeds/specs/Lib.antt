pub mod Deeds
pub mod Shown
