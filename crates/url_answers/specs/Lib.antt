pub mod OfWeb
