pub mod Numbered
pub mod Forms
pub mod Members
