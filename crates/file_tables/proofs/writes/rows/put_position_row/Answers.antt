use Rattle.std.proofs.Common.{refl, arith, rules}
use Rattle.sqlite.specs.Held.{state}
use Rattle.sqlite.specs.State.{HasCleanDisk}
use Rattle.file_meaning.specs.Free.{IsFree}
use Rattle.file_tables.proofs.RowLemmas.{position_put}
use Rattle.file_tables.proofs.Steps.{inside_after}
use Rattle.file_tables.proofs.writes.rows.put_position_row.Goals as goal

pub returns : goal.returns
returns g c = record {
  inside = search rules;
  written = λ clean at.
      let s0 = state g.S.Store c.args.tx.now.conn.now in
      let s1 = state g.S.Store c.put_position.new.tx.conn.now in
      let s2 = state g.S.Store c.drop_discount.new.tx.conn.now in
      let s3 = state g.S.Store c.add_discount.new.tx.conn.now in
      let late : HasCleanDisk s2 = omega (arith, c.add_discount.ensures.inside.crash.clean) in
      let early : HasCleanDisk s1 = omega (arith, c.drop_discount.ensures.inside.crash.clean) in
      let a = c.in_ok-stood.ensures.written early at in
      let b = c.in_ok-drop_discount.ensures.written late (inside_after _ s0 s1 a) in
      (refl, position_put (IsFree c.args.from) c.args.row.now c.in_ok-stood.stood s0 s1 s2 s3 a (c.in_ok-stood.ensures.told early at) b (c.in_ok-add_discount.ensures.written clean (inside_after _ s1 s2 b)));
}
