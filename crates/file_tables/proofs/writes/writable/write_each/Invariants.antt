use Rattle.std.proofs.Common.{◌≡◌, drop}
use Rattle.sqlite.specs.Held.{state}
use Rattle.sqlite.specs.State.{HasCleanDisk}
use Rattle.file_schema.specs.Inside.{StaysInside}
use Rattle.file_rows.specs.Changes.{IsInside}
use Rattle.file_meaning.specs.Free.{IsFree}
use Rattle.file_tables.specs.Steps.{made_each, next_each}
use Rattle.file_tables.proofs.Steps.{Reaches}
use Rattle.file_tables.proofs.writes.writable.write_each.Given as goal

abbrev pub invariant-things : goal.invariant-things
invariant-things g l =
    let old = state g.S.Store l.fn.tx.conn.now in
    let now = state g.S.Store l.tx.conn.now in
    let left = drop l.thing-index l.things in
    StaysInside g.S.Store l.fn.tx.conn l.tx.conn
    × (HasCleanDisk now → IsInside old → (next_each g.T.Writable.next left l.free ≡ next_each g.T.Writable.next l.things l.fn.from)
    × Reaches (IsFree l.fn.from) (IsFree l.free) (made_each g.T.Writable.made g.T.Writable.next left l.free) (made_each g.T.Writable.made g.T.Writable.next l.things l.fn.from) old now)
