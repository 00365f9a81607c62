mod StackLemmas
mod LoopLemmas
mod Answered
mod Widths
