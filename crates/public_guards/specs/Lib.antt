pub mod ByRow
pub mod Reading
pub mod Writing
pub mod Listing
pub mod Calling
