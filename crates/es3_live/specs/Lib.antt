pub mod Live
pub mod Runs
pub mod Keeps
