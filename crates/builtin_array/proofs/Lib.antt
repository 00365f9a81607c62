pub mod Arrays
pub mod Comes
pub mod Rows
