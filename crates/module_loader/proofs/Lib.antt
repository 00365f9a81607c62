pub mod BuiltIns
pub mod Imported
pub mod KeyCalls
