-- The log of an overlay and its rows, passed on to drafts.
pub use Rattle.draft_overlay.specs.Logs.{Log, rows_of, rows_at, log_with, IsSale}
