pub mod Asked
pub mod Joined
pub mod Ordered
pub mod Partners
pub mod Exports
pub mod Streamed
pub mod Fitting
pub mod WriteLemmas
