pub mod Loading
pub mod Tries
