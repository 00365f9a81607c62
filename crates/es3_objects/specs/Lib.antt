pub mod Objects
pub mod Properties
pub mod Making
pub mod Items
pub mod Reading
pub mod Held
