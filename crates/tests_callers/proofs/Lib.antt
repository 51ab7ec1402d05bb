pub mod ComeLemmas
pub mod MergeLemmas
