pub mod Held
pub mod Later
pub mod Names
pub mod UsageUpdates
pub mod Spends
pub mod Redemptions
pub mod Beside
pub mod Usages
