pub mod Fields
pub mod Indexed
pub mod Running
