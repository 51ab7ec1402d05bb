-- What is known of streams, passed on.
pub use Rattle.web_arrivals.proofs.RowLemmas.{nothing-too-much}
pub use Rattle.web_connection.proofs.FollowLemmas.{run_sure}
pub use Rattle.web_arrivals.proofs.StreamLemmas.{run-on, told-once}
