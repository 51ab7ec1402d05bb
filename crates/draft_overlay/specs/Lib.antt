pub mod Limits
pub mod Logs
pub mod Purchases
pub mod Names
pub mod Coded
pub mod Overlays
