pub mod Steady
pub mod Chain
pub mod Whole
pub mod Kept
