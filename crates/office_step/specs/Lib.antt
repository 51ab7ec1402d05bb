pub mod ShownRows
pub mod PeriodicWork
pub mod Step
pub mod Answer
pub mod Changes
pub mod Drafts
pub mod IsStep
