pub mod Freezing
pub mod Records
pub mod Copies
pub mod Listing
