use Rattle.std.proofs.Common.{refl, arith, rules}
use Rattle.sqlite.specs.Held.{state}
use Rattle.sqlite.specs.State.{HasCleanDisk}
use Rattle.file_meaning.specs.Free.{IsFree}
use Rattle.file_tables.proofs.RowLemmas.{voucher_dropped}
use Rattle.file_tables.proofs.Steps.{inside_after}
use Rattle.file_tables.proofs.writes.rows.drop_voucher.Goals as goal

pub returns : goal.returns
returns g c = record {
  inside = search rules;
  written = λ clean at.
      let s0 = state g.S.Store c.args.tx.now.conn.now in
      let s1 = state g.S.Store c.remove.new.tx.conn.now in
      let s2 = state g.S.Store c.remove-2.new.tx.conn.now in
      let s3 = state g.S.Store c.remove_voucher.new.tx.conn.now in
      let late : HasCleanDisk s2 = omega (arith, c.remove_voucher.ensures.inside.crash.clean) in
      let early : HasCleanDisk s1 = omega (arith, c.remove-2.ensures.inside.crash.clean) in
      let a = c.in_ok-remove.ensures.written early at in
      let b = c.in_ok-remove-2.ensures.written late (inside_after _ s0 s1 a) in
      (refl, voucher_dropped (IsFree c.args.from) c.args.id s0 s1 s2 s3 a b (c.in_ok-remove_voucher.ensures.written clean (inside_after _ s1 s2 b)));
}
