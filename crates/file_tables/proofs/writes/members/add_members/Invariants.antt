use Rattle.std.proofs.Common.{◌≡◌, ◌+◌, drop}
use Rattle.sqlite.specs.Held.{state}
use Rattle.sqlite.specs.State.{HasCleanDisk}
use Rattle.file_schema.specs.Inside.{StaysInside}
use Rattle.file_rows.specs.Changes.{IsInside}
use Rattle.file_tables.specs.Steps.{made_each, next_each}
use Rattle.file_tables.proofs.Steps.{Reaches}
use Rattle.file_tables.proofs.writes.members.add_members.Given as goal

abbrev pub invariant-members : goal.invariant-members
invariant-members g l =
    let old = state g.S.Store l.fn.tx.conn.now in
    let now = state g.S.Store l.tx.conn.now in
    let left = drop l.member-index l.members in
    StaysInside g.S.Store l.fn.tx.conn l.tx.conn
    × (HasCleanDisk now → IsInside old → (next_each (λ _ n. n + 1) left l.free ≡ next_each (λ _ n. n + 1) l.members l.fn.from)
    × Reaches (λ _. Unit {0}) (λ _. Unit {0}) (made_each (λ id n. g.T.Stored.with_row (g.T.Member.row_of n l.owner id)) (λ _ n. n + 1) left l.free)
    (made_each (λ id n. g.T.Stored.with_row (g.T.Member.row_of n l.owner id)) (λ _ n. n + 1) l.members l.fn.from) old now)
