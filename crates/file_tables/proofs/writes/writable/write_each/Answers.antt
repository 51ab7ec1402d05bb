use Rattle.std.proofs.Common.{◌∙◌, ◌+◌, drop, arith, sym, ap}
use Rattle.sqlite.specs.Held.{state}
use Rattle.sqlite.specs.State.{HasCleanDisk}
use Rattle.file_schema.proofs.Inside.{stays_then}
use Rattle.file_meaning.specs.Free.{IsFree}
use Rattle.file_tables.specs.Steps.{next_each}
use Rattle.file_tables.proofs.Steps.{inside_reached, drop_at, drop_all, next_on, one_more, all_done}
use Rattle.file_tables.proofs.writes.writable.write_each.Goals as goal

pub things-preserved : goal.things-preserved
things-preserved g c =
    let old = state g.S.Store c.args.tx.now.conn.now in
    let mid = state g.S.Store c.things.tx.conn.now in
    let new = state g.S.Store c.write.new.tx.conn.now in
    let all = c.args.things.now in
    let i = c.things.thing-index in
    let inv = c.things.invariant in
    let step = c.in_ok-free.ensures in (
      stays_then g.S.Store c.args.tx.now.conn c.things.tx.conn c.write.new.tx.conn inv.0 step.inside,
      λ clean at.
          let early : HasCleanDisk mid = omega (arith, step.inside.crash.clean) in
          let reached = inv.1 early at in
          let written = step.written clean (inside_reached _ _ _ _ old mid reached.1) in
          let made = g.T.Writable.made in
          let next = g.T.Writable.next in
          let x = c.thing-item.result in
          let is = drop_at all i x c.things-test.true c.thing-item.is in (
            next_on made next x (drop i all) (drop (i + 1) all) all c.args.from c.in_ok-free.free c.things.free is reached.0 written.0,
            one_more made next IsFree g.met.T.Writable.stays_free x (drop i all) (drop (i + 1) all) all c.args.from c.things.free c.in_ok-free.free is written.0 old mid new reached.1 written.1,
          ),
    )

pub returns : goal.returns
returns g c = record {
  inside = c.things.invariant.0;
  written = λ clean at.
      let all = c.args.things.now in
      let i = c.things.thing-index in
      let reached = c.things.invariant.1 clean at in
      let none = drop_all all i c.things-test.false in (
        sym (ap (λ l. next_each g.T.Writable.next l c.things.free) none) ∙ reached.0,
        all_done g.T.Writable.made g.T.Writable.next IsFree (drop i all) all c.args.from c.things.free none (state g.S.Store c.args.tx.now.conn.now) (state g.S.Store c.things.tx.conn.now) reached.1,
      );
}
