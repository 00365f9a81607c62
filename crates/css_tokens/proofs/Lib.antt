pub mod Large
