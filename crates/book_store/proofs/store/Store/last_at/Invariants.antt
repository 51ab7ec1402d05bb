use Rattle.std.proofs.Common.{◌≡◌, None, drop}
use Rattle.model_rows.specs.Passages.{last_after}
use Rattle.book_store.specs.Walks.{rows_of}
use Rattle.book_store.proofs.store.Store.last_at.Given as goal

-- with what is left it is the last of all
abbrev pub invariant-loop-place : goal.invariant-loop-place
invariant-loop-place l = last_after l.last (rows_of (λ r. r.id) (drop l.place l.ids) l.self.state.lists.checkins) ≡ last_after None (rows_of (λ r. r.id) l.ids l.self.state.lists.checkins)
