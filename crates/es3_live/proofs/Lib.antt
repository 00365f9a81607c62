pub mod Growth
pub mod Reading
pub mod Writing
pub mod Making
