pub mod Where
pub mod Code
pub mod Texts
pub mod Moves
pub mod Answers
