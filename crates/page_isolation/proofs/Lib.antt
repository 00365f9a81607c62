pub mod Both
pub mod Sides
pub mod Deeds
pub mod Isolates
