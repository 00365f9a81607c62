pub mod Html
pub mod Documents
pub mod Ready
pub mod Answered
