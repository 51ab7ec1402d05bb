pub mod Accepting
pub mod Reads
pub mod Scripts
