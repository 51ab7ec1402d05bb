-- What a decision sees of its draft, passed on.
pub use Rattle.draft_changes.specs.DraftState.{DraftState, now, Extends}
