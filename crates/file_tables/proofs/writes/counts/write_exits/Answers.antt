use Rattle.std.proofs.Common.{drop, get_or, add-one, drop-cons, arith, ap}
use Rattle.sqlite.specs.Held.{state}
use Rattle.sqlite.specs.State.{HasCleanDisk}
use Rattle.file_schema.proofs.Inside.{stays_then}
use Rattle.file_tables.proofs.Steps.{inside_reached, drop_all, ends}
use Rattle.model_rows.specs.declared.count_rows.QuotaCount.{QuotaCount}
use Rattle.file_meaning.specs.Made.{put_exit, each}
use Rattle.file_tables.proofs.Upgrades.{one_added, all_added}
use Rattle.file_tables.proofs.writes.counts.write_exits.Goals as goal

pub counts-preserved : goal.counts-preserved
counts-preserved g c =
    let old = state g.S.Store c.args.tx.now.conn.now in
    let mid = state g.S.Store c.counts.tx.conn.now in
    let new = state g.S.Store c.write_exit.new.tx.conn.now in
    let all = c.args.counts.now in
    let i = c.counts.count-index in
    let inv = c.counts.invariant in
    let step = c.in_ok-write_exit.ensures in (
      stays_then g.S.Store c.args.tx.now.conn c.counts.tx.conn c.write_exit.new.tx.conn inv.0 step.inside,
      λ clean at.
          let early : HasCleanDisk mid = omega (arith, step.inside.crash.clean) in
          let reached = inv.1 early at in
          let written = step.written clean (inside_reached _ _ _ _ old mid reached) in
          let none : QuotaCount = record { quota = 0; usage = record { paid = 0; pending = 0; blocked = 0; carts = 0; waiting = 0; exited = 0 } } in
          one_added put_exit all i (get_or all i none) old mid new (rw add-one (drop-cons all i none c.counts-test.true)) reached written,
    )

pub returns : goal.returns
returns g c = record {
  inside = c.counts.invariant.0;
  written = λ clean at.
      let old = state g.S.Store c.args.tx.now.conn.now in
      let new = state g.S.Store c.counts.tx.conn.now in
      let all = c.args.counts.now in
      let i = c.counts.count-index in
      let reached = c.counts.invariant.1 clean at in
      let with_row = put_exit in
      let none = drop_all all i c.counts-test.false in
      all_added with_row all old new (ends (λ _. Unit {0}) (λ _. Unit {0}) (each with_row (drop i all)) (each with_row all) old new (λ u. ap (λ l. each with_row l u) none) reached);
}
