pub mod Pairs
pub mod ArgsRow
pub mod GuardNames
pub mod Live
