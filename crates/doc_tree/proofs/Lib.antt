mod Climbing
mod Left
mod Added
