pub mod Reading
pub mod Having
pub mod Keys
pub mod Functions
