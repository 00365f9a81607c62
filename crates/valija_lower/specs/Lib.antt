pub mod Module
