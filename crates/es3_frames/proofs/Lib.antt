pub mod Depths
pub mod Rows
pub mod Stacks
pub mod Starts
pub mod Tags
