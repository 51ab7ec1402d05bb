use Rattle.std.proofs.Common.{Ok, [], ◌∷◌, arith, rules}
use Rattle.sqlite.specs.Held.{state}
use Rattle.sqlite.specs.State.{Executes}
use Rattle.file_rows.specs.Cells.{number}
use Rattle.file_writes.proofs.VouchersLemmas.{redeem_text, redeems}
use Rattle.file_writes.proofs.vouchers.put_redeemed.Goals as goal

pub returns : goal.returns
returns g c = record {
  inside = search rules;
  written = λ clean at.
      let old = state g.S.Store c.args.tx.now.conn.now in
      let new = state g.S.Store c.run.new.tx.conn.now in
      let count = c.args.count in
      let ran : Executes redeem_text (number count.voucher ∷ number count.redeemed ∷ []) old new (Ok c.in_ok-rows.rows) = rw (c.in_ok-id.ensures.value, c.in_ok-redeemed.ensures.value) at (c.in_ok-rows.ensures.ran clean at.inside) in
      redeems old new at c.run.ensures.inside.crash.limit count c.in_ok-rows.rows (omega arith) ran;
}
