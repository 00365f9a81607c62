mod Slices
mod Trimmed
mod Quoted
