pub mod Measured
pub mod PlacedRows
pub mod Rows
