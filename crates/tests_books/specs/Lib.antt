pub mod Ending
pub mod Exited
