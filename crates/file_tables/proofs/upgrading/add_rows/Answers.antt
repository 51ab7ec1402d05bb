use Rattle.std.proofs.Common.{drop, arith, ap}
use Rattle.sqlite.specs.Held.{state}
use Rattle.sqlite.specs.State.{HasCleanDisk}
use Rattle.file_schema.proofs.Inside.{stays_then}
use Rattle.file_tables.proofs.Steps.{inside_reached, drop_at, drop_all, ends}
use Rattle.file_meaning.specs.Made.{each}
use Rattle.file_tables.proofs.Upgrades.{one_added, all_added}
use Rattle.file_tables.proofs.upgrading.add_rows.Goals as goal

pub rows-preserved : goal.rows-preserved
rows-preserved g c =
    let old = state g.S.Store c.args.tx.now.conn.now in
    let mid = state g.S.Store c.rows.tx.conn.now in
    let new = state g.S.Store c.insert.new.tx.conn.now in
    let all = c.args.rows.now in
    let i = c.rows.row-index in
    let inv = c.rows.invariant in
    let step = c.in_ok-insert.ensures in (
      stays_then g.S.Store c.args.tx.now.conn c.rows.tx.conn c.insert.new.tx.conn inv.0 step.inside,
      λ clean at.
          let early : HasCleanDisk mid = omega (arith, step.inside.crash.clean) in
          let reached = inv.1 early at in
          let written = step.written clean (inside_reached _ _ _ _ old mid reached) in
          one_added g.T.Stored.with_row all i c.row-item.result old mid new (drop_at all i c.row-item.result c.rows-test.true c.row-item.is) reached written,
    )

pub returns : goal.returns
returns g c = record {
  inside = c.rows.invariant.0;
  written = λ clean at.
      let old = state g.S.Store c.args.tx.now.conn.now in
      let new = state g.S.Store c.rows.tx.conn.now in
      let all = c.args.rows.now in
      let i = c.rows.row-index in
      let reached = c.rows.invariant.1 clean at in
      let with_row = g.T.Stored.with_row in
      let none = drop_all all i c.rows-test.false in
      all_added with_row all old new (ends (λ _. Unit {0}) (λ _. Unit {0}) (each with_row (drop i all)) (each with_row all) old new (λ u. ap (λ l. each with_row l u) none) reached);
}
