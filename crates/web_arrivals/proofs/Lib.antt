pub mod StreamLemmas
pub mod RowLemmas
pub mod CutLemmas
pub mod GivenLemmas
