pub mod Calls
pub mod Errors
pub mod Numbers
pub mod Seeing
