pub mod Awaited
pub mod Readings
pub mod Telling
pub mod Unfinished
