use Rattle.std.proofs.Common.{Ok, [], ◌∷◌, rules}
use Rattle.sqlite.specs.Held.{state}
use Rattle.sqlite.specs.State.{Executes}
use Rattle.file_rows.specs.Cells.{number}
use Rattle.file_writes.proofs.VouchersLemmas.{delete_text, removes}
use Rattle.file_writes.proofs.vouchers.remove_voucher.Goals as goal

pub returns : goal.returns
returns g c = record {
  inside = search rules;
  written = λ clean at.
      let old = state g.S.Store c.args.tx.now.conn.now in
      let new = state g.S.Store c.run.new.tx.conn.now in
      let ran : Executes delete_text (number c.args.id ∷ []) old new (Ok c.in_ok-run.field-0) = rw c.in_ok-key.ensures.value at (c.in_ok-run.ensures.ran clean at.inside) in
      removes old new at c.run.ensures.inside.crash.limit c.args.id c.in_ok-run.field-0 ran;
}
