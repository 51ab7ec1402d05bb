pub mod Json
pub mod Enough
pub mod Priorities
