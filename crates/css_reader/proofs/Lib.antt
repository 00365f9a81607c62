mod Endings
mod Says
mod Widths
mod Answered
