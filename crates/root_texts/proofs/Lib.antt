pub mod Begins
pub mod Printed
