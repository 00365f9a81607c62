pub mod Begins
pub mod Resumed
pub mod Settling
