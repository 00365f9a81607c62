pub mod Text
pub mod Tokens
pub mod Safe
pub mod Back
