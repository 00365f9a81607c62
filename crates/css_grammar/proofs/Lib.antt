pub mod Stands
pub mod Sound
pub mod Complete
pub mod Exact
pub mod Viable
pub mod Refusals
