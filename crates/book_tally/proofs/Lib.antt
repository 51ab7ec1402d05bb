pub mod AmountLemmas
pub mod Newest
pub mod Earlier
pub mod Unshifted
