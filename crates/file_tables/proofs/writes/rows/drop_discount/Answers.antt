use Rattle.sqlite.specs.Held.{state}
use Rattle.file_rows.specs.Changes.{Changes, without_discount}
use Rattle.file_tables.proofs.RowLemmas.{dropped_if, discount_dropped}
use Rattle.file_tables.proofs.Steps.{on_ok}
use Rattle.file_tables.proofs.writes.rows.drop_discount.Goals as goal

pub returns-then-stood : goal.returns-then-stood
returns-then-stood g c = record {
  inside = c.remove.ensures.inside;
  written = λ clean at.
      let s0 = state g.S.Store c.args.tx.now.conn.now in
      let s1 = state g.S.Store c.remove.new.tx.conn.now in
      let id = c.args.id in
      on_ok c.remove.result (Changes (without_discount id) s0 s1) (Changes (dropped_if c.args.stood id) s0 s1) (c.remove.ensures.written clean at) (λ h. discount_dropped id c.args.stood s0 s1 c.if-stood.true h);
}
