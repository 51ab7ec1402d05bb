use Rattle.std.proofs.Common.{◌≡◌, ◌==◌, false, arith}
use Rattle.std.proofs.lemmas.Bool.Decides.{nat_tests}
use Rattle.sqlite.specs.Held.{state}
use Rattle.file_rows.specs.Changes.{Changes, with_discount}
use Rattle.file_tables.proofs.RowLemmas.{added, discount_added}
use Rattle.file_tables.proofs.Steps.{on_ok}
use Rattle.file_tables.proofs.writes.rows.add_discount.Goals as goal

pub returns : goal.returns
returns g c = record {
  inside = c.insert.ensures.inside;
  written = λ clean at.
      let s0 = state g.S.Store c.args.tx.now.conn.now in
      let s1 = state g.S.Store c.insert.new.tx.conn.now in
      let w = c.args.row.now in
      let some : (w.discount == 0) ≡ false = grind (arith, nat_tests, c.if-get-eq0.false, c.get.ensures.value) in
      on_ok c.insert.result (Changes (with_discount (record { position_id = w.id; discount = w.discount })) s0 s1) (Changes (added w) s0 s1) (c.insert.ensures.written clean at) (λ h. discount_added w s0 s1 some h);
}
