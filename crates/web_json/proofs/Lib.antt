pub mod Floats
pub mod PieceLemmas
