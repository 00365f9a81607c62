pub mod Names
pub mod Lower
pub mod Places
pub mod Gives
pub mod Held
pub mod Views
