pub mod Renumbering
pub mod Mapped
pub mod Names
pub mod Cells
pub mod Promises
