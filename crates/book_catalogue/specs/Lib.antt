pub mod Members
pub mod Puts
