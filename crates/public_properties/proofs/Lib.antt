pub mod Items
pub mod Alike
pub mod Properties
pub mod Present
pub mod AtKey
pub mod Sorts
