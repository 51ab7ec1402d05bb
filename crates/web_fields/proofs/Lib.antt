pub mod Values
pub mod Kept
