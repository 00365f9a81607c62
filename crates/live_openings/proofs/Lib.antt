pub mod Nodes
pub mod Page
pub mod Runs
pub mod Text
