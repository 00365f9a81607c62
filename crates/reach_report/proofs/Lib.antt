pub mod Classes
pub mod Lists
pub mod Partition
pub mod Laws
pub mod Loops
pub mod Grants
