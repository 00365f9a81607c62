pub mod Numbers
pub mod Deep
pub mod Bound
pub mod Source
