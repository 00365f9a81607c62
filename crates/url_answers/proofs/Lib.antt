pub mod Sheets
pub mod Texts
pub mod OfWeb
