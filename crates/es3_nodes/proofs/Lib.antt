pub mod Clauses
pub mod Again
