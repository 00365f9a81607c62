pub mod Free
pub mod Resolve
pub mod Declaring
pub mod Check
