pub mod Direct
pub mod Forms
pub mod Front
pub mod Grown
pub mod Heads
pub mod Names
pub mod Steps
