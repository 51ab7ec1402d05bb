pub mod Telling
pub mod Parts
pub mod Offices
pub mod Amounts
pub mod Joined
pub mod PutLemmas
pub mod TableLemmas
