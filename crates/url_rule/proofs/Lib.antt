pub mod Below
pub mod Scheme
pub mod Cases
pub mod Shown
pub mod Places
pub mod Web
