pub mod UnreadLemmas
pub mod OwnedLemmas
