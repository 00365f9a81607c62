pub mod Page
pub mod Deeds
pub mod Runner
pub mod Outcome
pub mod Texts
