pub mod Failures
pub mod Outside
pub mod Run
