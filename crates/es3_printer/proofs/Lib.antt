pub mod Forms
pub mod Stacked
pub mod Seen
