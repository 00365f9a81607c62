pub mod Lent
pub mod Ends
pub mod Methods
