pub mod Checked
pub mod Declaring
pub mod Front
pub mod Given
pub mod OnceParts
pub mod Resolved
pub mod Options
