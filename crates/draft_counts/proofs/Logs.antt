-- What is known of logs, passed on to drafts.
pub use Rattle.draft_overlay.proofs.Steps.{after_all-push}
pub use Rattle.draft_overlay.proofs.Sales.{sales_catalogue}
pub use Rattle.draft_overlay.proofs.CodeKeys.{when_ok}
