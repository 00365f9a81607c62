pub mod ReadRows
pub mod WriteRows
pub mod ListRows
pub mod CallRows
