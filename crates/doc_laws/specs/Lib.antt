pub mod Forest
pub mod Owned
pub mod Reached
pub mod Within
pub mod Places
