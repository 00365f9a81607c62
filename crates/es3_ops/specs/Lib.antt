pub mod Grouped
pub mod Listed
pub mod Taking
pub mod Views
pub mod Waiting
