use Rattle.std.proofs.Common.{Ok, arith, rules}
use Rattle.sqlite.specs.Held.{state}
use Rattle.sqlite.specs.State.{HasCleanDisk, Executes}
use Rattle.file_rows.specs.Changes.{Changes}
use Rattle.file_writes.specs.Vouchers.{voucher_values, with_new_voucher, without_voucher}
use Rattle.file_writes.proofs.Rows.{inside_after, on_ok}
use Rattle.file_writes.proofs.VouchersLemmas.{update_text, puts, missed, adds_new}
use Rattle.file_writes.proofs.vouchers.put_voucher.Goals as goal

pub returns-in-0 : goal.returns-in-0
returns-in-0 g c = record {
  inside = search rules;
  written = λ clean at.
      let old = state g.S.Store c.args.tx.now.conn.now in
      let mid = state g.S.Store c.run_with.new.tx.conn.now in
      let new = state g.S.Store c.insert_voucher.new.tx.conn.now in
      let row = c.args.row.now in
      let before : HasCleanDisk mid = omega (arith, c.insert_voucher.ensures.inside.crash.clean) in
      let ran : Executes update_text (voucher_values row) old mid (Ok c.in_ok-count.count) = c.in_ok-count.ensures.ran before at.inside in
      let it = missed old mid at c.run_with.ensures.inside.crash.limit row c.in_ok-count.count (search rules) ran in
      on_ok c.insert_voucher.result (Changes (with_new_voucher row) mid new) _ (c.insert_voucher.ensures.written clean (inside_after (without_voucher row.id) old mid it.0))
      (λ h. adds_new old mid new row it.1 it.0 h);
}

pub returns-in-1 : goal.returns-in-1
returns-in-1 g c = record {
  inside = search rules;
  written = λ clean at.
      let old = state g.S.Store c.args.tx.now.conn.now in
      let new = state g.S.Store c.run_with.new.tx.conn.now in
      let ran : Executes update_text (voucher_values c.args.row.now) old new (Ok c.in_ok-count.count) = c.in_ok-count.ensures.ran clean at.inside in
      puts old new at c.run_with.ensures.inside.crash.limit c.args.row.now c.in_ok-count.count (search rules) ran;
}
