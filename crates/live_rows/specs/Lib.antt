pub mod Named
pub mod Live
