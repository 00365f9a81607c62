pub mod Indexed
pub mod Settled
