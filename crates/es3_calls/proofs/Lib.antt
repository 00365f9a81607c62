pub mod Callable
pub mod Bound
pub mod Made
pub mod Opened
