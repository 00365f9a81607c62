pub mod Reach
pub mod Parts
pub mod Turns
pub mod Makers
