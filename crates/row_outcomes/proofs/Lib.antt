pub mod Arguments
pub mod Lists
pub mod Numbers
pub mod Arrays
pub mod Told
