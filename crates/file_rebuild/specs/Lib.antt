pub mod Members
pub mod Arranged
