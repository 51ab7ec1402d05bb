pub mod Opened
pub mod Why
pub mod Found
pub mod Running
pub mod Upgraded
pub mod Supplied
pub mod Refusals
pub mod Migrated
