pub mod Written
pub mod Promised
pub mod Rests
pub mod Lengths
pub mod Planned
pub mod Statuses
pub mod Documents
