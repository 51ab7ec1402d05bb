pub mod Taken
pub mod Bounded
