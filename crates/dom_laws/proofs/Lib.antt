pub mod Store
pub mod Fits
pub mod Begun
pub mod Grown
pub mod Turns
pub mod Roots
