pub mod Places
pub mod Digits
pub mod Told
pub mod Walks
pub mod Agrees
pub mod Range
