pub mod Services
pub mod View
