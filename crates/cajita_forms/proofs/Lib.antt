pub mod Formed
pub mod Named
