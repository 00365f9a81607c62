pub mod Shown
pub mod DirectPage
pub mod Promises
