pub mod Marks
pub mod Marked
pub mod Named
pub mod Bound
pub mod Ids
