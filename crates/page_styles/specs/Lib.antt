pub mod Sheets
pub mod Answered
