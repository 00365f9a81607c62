pub mod Told
pub mod Thrown
