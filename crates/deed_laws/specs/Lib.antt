pub mod Deeds
pub mod Printed
