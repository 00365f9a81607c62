pub mod Html
pub mod Outcome
pub mod Begun
pub mod Spotted
pub mod Ready
pub mod Answered
