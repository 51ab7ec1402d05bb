pub mod ContextLemmas
pub mod ConnectionLemmas
pub mod RecordLemmas
pub mod HistoryLemmas
pub mod TurnLemmas
