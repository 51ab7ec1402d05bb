use Rattle.std.proofs.Common.{◌≡◌, ◌==◌, ◌&&◌, ◌++◌, drop, filter}
use Rattle.book_store.specs.Walks.{rows_of}
use Rattle.book_store.proofs.store.Store.checkins_of.Given as goal

-- the rows so far and those of what is left
abbrev pub invariant-loop-place : goal.invariant-loop-place
invariant-loop-place l = l.rows.items ++ filter (λ r. r.list == l.list && r.position == l.position) (rows_of (λ r. r.id) (drop l.place l.ids) l.self.state.lists.checkins) ≡ filter (λ r. r.list == l.list && r.position == l.position) (rows_of (λ r. r.id) l.ids l.self.state.lists.checkins)
