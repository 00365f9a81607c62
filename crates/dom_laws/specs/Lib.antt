pub mod Store
pub mod Fits
pub mod Roots
pub mod Objects
