pub mod Handles
pub mod Made
