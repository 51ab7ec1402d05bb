pub mod Settled
pub mod Spared
pub mod Fresh
