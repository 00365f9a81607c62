pub mod Places
pub mod Entering
