pub mod Counted
pub mod Spelled
pub mod Cut
pub mod Sizes
