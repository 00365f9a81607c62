pub mod Options
pub mod Gives
pub mod Boxed
pub mod Forms
pub mod Arguments
