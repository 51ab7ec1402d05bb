use Rattle.std.proofs.Common.{Ok, rules}
use Rattle.sqlite.specs.Held.{state}
use Rattle.sqlite.specs.State.{Executes}
use Rattle.file_writes.specs.Vouchers.{voucher_values}
use Rattle.file_writes.proofs.VouchersLemmas.{insert_text, adds}
use Rattle.file_writes.proofs.vouchers.insert_voucher.Goals as goal

pub returns : goal.returns
returns g c = record {
  inside = search rules;
  written = λ clean at.
      let old = state g.S.Store c.args.tx.now.conn.now in
      let new = state g.S.Store c.run_with.new.tx.conn.now in
      let ran : Executes insert_text (voucher_values c.args.row.now) old new (Ok c.in_ok-run_with.field-0) = c.in_ok-run_with.ensures.ran clean at.inside in
      adds old new at c.run_with.ensures.inside.crash.limit c.args.row.now c.in_ok-run_with.field-0 ran;
}
