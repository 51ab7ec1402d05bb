use Rattle.std.proofs.Common.{refl, arith, rules}
use Rattle.sqlite.specs.Held.{state}
use Rattle.sqlite.specs.State.{HasCleanDisk}
use Rattle.file_meaning.specs.Free.{IsFree}
use Rattle.file_tables.proofs.RowLemmas.{with_budget_put}
use Rattle.file_tables.proofs.Steps.{inside_after}
use Rattle.file_tables.proofs.writes.rows.put_voucher_row.Goals as goal

pub returns : goal.returns
returns g c = record {
  inside = search rules;
  written = λ clean at.
      let s0 = state g.S.Store c.args.tx.now.conn.now in
      let s1 = state g.S.Store c.put_voucher.new.tx.conn.now in
      let s2 = state g.S.Store c.write_budget.new.tx.conn.now in
      let early : HasCleanDisk s1 = omega (arith, c.write_budget.ensures.inside.crash.clean) in
      let a = c.in_ok-put_voucher.ensures.written early at in
      (refl, with_budget_put (IsFree c.args.from) c.args.row.now s0 s1 s2 a (c.in_ok-write_budget.ensures.written clean (inside_after _ s0 s1 a)));
}
