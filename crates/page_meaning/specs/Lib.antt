pub mod PageRuns
pub mod Means
pub mod Reach
pub mod Causes
pub mod Sources
pub mod Texts
pub mod Meant
