pub mod Nodes
pub mod Deeds
pub mod Printed
