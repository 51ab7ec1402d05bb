pub mod TickLemmas
pub mod WordLemmas
pub mod LineLaws
pub mod SayLemmas
