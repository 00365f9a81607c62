pub mod Boxed
pub mod Ending
pub mod FrameViews
pub mod Kept
pub mod KeptOnce
pub mod Lists
pub mod Made
pub mod Views
