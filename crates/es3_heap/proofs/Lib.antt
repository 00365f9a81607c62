pub mod Chains
pub mod Items
pub mod Laws
pub mod Names
