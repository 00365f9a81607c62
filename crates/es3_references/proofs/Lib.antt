pub mod Beyond
pub mod Made
pub mod Sharing
