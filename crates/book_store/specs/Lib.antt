pub mod Walks
pub mod Found
pub mod OneRow
