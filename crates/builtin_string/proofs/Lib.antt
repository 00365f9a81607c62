pub mod Comes
pub mod Rows
pub mod Units
pub mod Standing
