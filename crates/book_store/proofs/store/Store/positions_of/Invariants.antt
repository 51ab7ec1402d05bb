use Rattle.std.proofs.Common.{◌≡◌, ◌++◌, drop}
use Rattle.book_store.specs.Walks.{rows_of}
use Rattle.book_store.proofs.store.Store.positions_of.Given as goal

-- the rows so far and those of what is left
abbrev pub invariant-loop-place : goal.invariant-loop-place
invariant-loop-place l = l.rows.items ++ rows_of (λ r. r.id) (drop l.place l.ids) l.self.state.lists.positions ≡ rows_of (λ r. r.id) l.ids l.self.state.lists.positions
