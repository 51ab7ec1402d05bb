pub mod Told
pub mod Due
pub mod Walked
