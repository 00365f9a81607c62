pub mod Marks
pub mod Natives
pub mod Doing
pub mod Opening
pub mod Roots
