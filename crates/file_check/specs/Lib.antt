pub mod Room
pub mod Spent
pub mod Counted
pub mod Last
pub mod Firsts
pub mod Keys
pub mod Tested
