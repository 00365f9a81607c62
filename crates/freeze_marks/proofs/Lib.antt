pub mod Deleted
pub mod Public
pub mod Fresh
pub mod Rows
