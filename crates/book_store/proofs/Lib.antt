pub mod Counted
pub mod Listed
pub mod Waits
pub mod EachCart
