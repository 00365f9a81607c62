pub mod Adding
pub mod Closing
pub mod Exists
pub mod Finishing
pub mod Nested
pub mod Unique
