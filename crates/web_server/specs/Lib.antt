pub mod Clock
pub mod Hosted
pub mod GivingWay
pub mod Timeouts
pub mod Rounds
pub mod Waiting
