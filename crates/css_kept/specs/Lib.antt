pub mod Selectors
pub mod Table
pub mod Kept
pub mod Printed
pub mod OfTable
pub mod Links
pub mod Back
