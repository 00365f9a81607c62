pub mod Table
pub mod Kept
pub mod Printed
pub mod Texts
pub mod OfTable
