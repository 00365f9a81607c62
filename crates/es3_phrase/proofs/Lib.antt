pub mod AllTokens
pub mod Alone
pub mod Filling
pub mod Fronts
