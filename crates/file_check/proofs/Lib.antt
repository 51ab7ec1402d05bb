pub mod Recounts
pub mod Likes
pub mod OwnKeys
