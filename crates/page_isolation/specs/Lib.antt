pub mod Agree
pub mod Promises
pub mod Worked
