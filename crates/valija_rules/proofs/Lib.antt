pub mod Misplaced
pub mod Parts
mod Among
pub mod ShortNames
