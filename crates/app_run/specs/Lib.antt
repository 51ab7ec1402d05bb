pub mod Feed
pub mod House
pub mod Line
pub mod Fresh
pub mod Stored
pub mod Opened
pub mod Typed
