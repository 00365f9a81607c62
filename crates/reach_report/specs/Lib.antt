pub mod Links
pub mod Groups
pub mod Worked
pub mod Pages
