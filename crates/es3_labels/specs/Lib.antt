pub mod Around
pub mod Misplaced
pub mod View
