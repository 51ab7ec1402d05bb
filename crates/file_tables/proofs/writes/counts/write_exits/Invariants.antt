use Rattle.std.proofs.Common.{drop}
use Rattle.sqlite.specs.Held.{state}
use Rattle.sqlite.specs.State.{HasCleanDisk}
use Rattle.file_schema.specs.Inside.{StaysInside}
use Rattle.file_rows.specs.Changes.{IsInside}
use Rattle.file_meaning.specs.Made.{put_exit}
use Rattle.file_tables.proofs.Upgrades.{Adds}
use Rattle.file_tables.proofs.writes.counts.write_exits.Given as goal

abbrev pub invariant-counts : goal.invariant-counts
invariant-counts g l =
    let old = state g.S.Store l.fn.tx.conn.now in
    let now = state g.S.Store l.tx.conn.now in
    StaysInside g.S.Store l.fn.tx.conn l.tx.conn
    × (HasCleanDisk now → IsInside old → Adds put_exit (drop l.count-index l.counts) l.counts old now)
