pub mod Exact
pub mod Answered
