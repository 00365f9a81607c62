pub mod Handlers
pub mod Kept
