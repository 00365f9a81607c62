pub mod Dense
pub mod Keys
pub mod Laws
pub mod Listed
pub mod Names
pub mod Plain
pub mod Values
