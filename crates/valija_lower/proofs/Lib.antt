pub mod Front
pub mod Steps
pub mod Places
pub mod Forms
pub mod AtHand
pub mod Functions
