pub mod Declared
pub mod Tables
