pub mod Puts
pub mod Carries
pub mod Told
pub mod SparedLemmas
pub mod FreshLemmas
pub mod AgainLemmas
