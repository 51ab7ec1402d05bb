pub mod EntryLemmas
pub mod Selected
pub mod SameDigest
