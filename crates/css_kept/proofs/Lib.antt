pub mod Classes
pub mod Lists
pub mod Places
pub mod Each
pub mod Links
pub mod Lowered
pub mod Unescaped
pub mod Ascii
pub mod BackSelectors
pub mod BackValues
pub mod BackSheets
pub mod Bytes
mod Examples
