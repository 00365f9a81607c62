pub mod Misplaced
pub mod Order
pub mod Parts
mod Among
