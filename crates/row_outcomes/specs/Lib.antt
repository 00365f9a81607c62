pub mod Arguments
pub mod Arrays
pub mod Comes
pub mod Lists
pub mod Numbers
