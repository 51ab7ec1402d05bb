pub mod Damage
pub mod Texts
pub mod Alone
pub mod Select
pub mod Lookups
pub mod Since
pub mod Asked
