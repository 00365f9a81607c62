pub mod Padded
pub mod Showing
pub mod Made
