pub mod BlockLemmas
pub mod ChainLemmas
pub mod RoomLemmas
mod Cuts
pub mod Sorted
pub mod EntryLemmas
