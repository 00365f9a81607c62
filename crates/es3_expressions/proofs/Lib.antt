pub mod Parts
pub mod Entered
pub mod Kept
