pub mod Spots
pub mod Bound
pub mod Table
pub mod Binding
pub mod Nodes
