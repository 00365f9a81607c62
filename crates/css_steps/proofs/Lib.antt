pub mod Quotes
pub mod WordSteps
