use Rattle.std.proofs.Common.{drop}
use Rattle.sqlite.specs.Held.{state}
use Rattle.sqlite.specs.State.{HasCleanDisk}
use Rattle.file_schema.specs.Inside.{StaysInside}
use Rattle.file_rows.specs.Changes.{IsInside}
use Rattle.file_tables.proofs.Upgrades.{Adds}
use Rattle.file_tables.proofs.upgrading.add_rows.Given as goal

abbrev pub invariant-rows : goal.invariant-rows
invariant-rows g l =
    let old = state g.S.Store l.fn.tx.conn.now in
    let now = state g.S.Store l.tx.conn.now in
    StaysInside g.S.Store l.fn.tx.conn l.tx.conn
    × (HasCleanDisk now → IsInside old → Adds g.T.Stored.with_row (drop l.row-index l.rows) l.rows old now)
