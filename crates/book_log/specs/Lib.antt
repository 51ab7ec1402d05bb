pub mod Places
pub mod Keys
pub mod Puts
pub mod NewCheckins
pub mod RowsAfter
