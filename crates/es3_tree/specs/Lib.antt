pub mod Measure
pub mod Placed
pub mod PlacedView
pub mod Token
pub mod Tree
pub mod View
