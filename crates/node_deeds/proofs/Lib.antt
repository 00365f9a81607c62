pub mod Oks
pub mod Visits
