pub mod Trees
pub mod Stores
pub mod Names
pub mod Relation
pub mod Marks
pub mod Awaiting
pub mod Granting
pub mod Bare
