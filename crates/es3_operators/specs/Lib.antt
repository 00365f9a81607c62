pub mod Given
pub mod Stopping
pub mod Arithmetic
