pub mod Objects
pub mod Properties
pub mod Enumerating
pub mod Making
pub mod Items
pub mod Store
