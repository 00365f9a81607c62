pub mod Chains
pub mod Stopping
