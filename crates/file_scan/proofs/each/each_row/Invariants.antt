use Rattle.std.proofs.Common.{◌≡◌, false, List, [], length}
use Rattle.sqlite_value.specs.Order.{Row as Shown}
use Rattle.sqlite.specs.State.{HasCleanDisk, IsUnchanged, Survives}
use Rattle.sqlite.specs.Held.{state}
use Rattle.sqlite.specs.Given.{HasGiven}
use Rattle.file_scan.specs.Took.{Took}
use Rattle.file_scan.proofs.each.each_row.Given as goal

abbrev pub invariant-rows : goal.invariant-rows
invariant-rows g l =
    let old = state g.S.Store l.fn.conn in
    let now = state g.S.Store l.rows.conn.now in
    (l.rows.conn.ghost_name ≡ l.initial.rows.conn.ghost_name) × Survives old now (λ _. ⊥) × (l.rows.conn.now.in_transaction ≡ false)
    × ((rows : List Shown) × Took g.K.Taker.takes l.fn.taker rows l.taker × (HasCleanDisk now → HasGiven g.S.Store l.sql [] l.rows.conn.now rows × IsUnchanged old now) × (length rows ≡ l.count))
