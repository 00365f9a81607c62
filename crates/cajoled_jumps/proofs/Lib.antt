pub mod Places
pub mod Expressions
pub mod Rewritten
pub mod Source
