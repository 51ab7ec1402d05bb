pub mod Values
mod Sums
mod RowCountLemmas
mod Reached
pub mod UseShifts
mod UseCounts
mod Unsold
mod Releases
pub mod Logs
