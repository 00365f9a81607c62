pub mod Seen
pub mod Clear
pub mod Came
pub mod Changes
pub mod Rowed
pub mod Found
