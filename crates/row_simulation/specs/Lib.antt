pub mod Correspond
pub mod Among
pub mod RowLaw
pub mod Roots
pub mod OperatorLaw
pub mod Inline
