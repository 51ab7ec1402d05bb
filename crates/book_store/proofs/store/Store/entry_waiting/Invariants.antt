use Rattle.std.proofs.Common.{◌≡◌, drop}
use Rattle.std.specs.Prelude.{find}
use Rattle.model_rows.specs.Waits.{waits_as}
use Rattle.book_store.specs.Walks.{rows_of}
use Rattle.book_store.proofs.store.Store.entry_waiting.Given as goal

-- the first of what is left is the first of all
abbrev pub invariant-loop-place : goal.invariant-loop-place
invariant-loop-place l = find (λ r. waits_as l.email l.product r) (rows_of (λ r. r.id) (drop l.place l.ids) l.self.state.lists.waiting) ≡ find (λ r. waits_as l.email l.product r) (rows_of (λ r. r.id) l.ids l.self.state.lists.waiting)
