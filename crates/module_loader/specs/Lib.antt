pub mod BuiltIns
pub mod KeyCalls
pub mod Page
pub mod Turns
