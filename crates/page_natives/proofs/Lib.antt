pub mod Answered
pub mod Cells
pub mod NodeMethods
pub mod Numbers
pub mod OwnFunctions
pub mod Queues
pub mod Telling
