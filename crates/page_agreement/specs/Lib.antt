pub mod Agree
pub mod Lines
pub mod Isolated
pub mod Worked
