pub mod Takings
pub mod NewIds
pub mod Runs
pub mod Promises
pub mod Doors
pub mod Changes
pub mod NothingTooMuch
pub mod Imports
