pub mod Outcome
pub mod Machine
pub mod Held
pub mod Kept
