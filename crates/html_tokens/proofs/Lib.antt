mod Values
mod Spellings
pub mod Fronts
mod Oks
