pub mod Endings
pub mod Reads
pub mod Told
