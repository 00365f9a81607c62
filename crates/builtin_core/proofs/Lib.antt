pub mod Calls
pub mod Makers
pub mod Numbers
pub mod Sights
