pub mod Entries
pub mod Present
pub mod Slots
pub mod Running
