pub mod Codes
pub mod Output
pub mod Answered
pub mod Promised
