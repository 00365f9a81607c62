pub mod Theorem
pub mod Causes
pub mod Reach
pub mod Sources
pub mod Texts
pub mod Meant
