pub mod Counts
pub mod Uses
pub mod CountDelta
pub mod Touched
pub mod Tallied
pub mod Logs
