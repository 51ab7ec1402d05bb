use Rattle.std.proofs.Common.{arith, subst, cond, rules}
use Rattle.sqlite.specs.Held.{state}
use Rattle.sqlite.specs.State.{HasCleanDisk}
use Rattle.file_rows.specs.Tables.{Tables}
use Rattle.file_rows.specs.Changes.{Changes}
use Rattle.file_writes.proofs.Rows.{then_changes, inside_after, on_ok}
use Rattle.file_writes.proofs.stored.put.Goals as goal

pub returns-then-stood : goal.returns-then-stood
returns-then-stood g c = record {
  inside = search rules;
  written = λ clean at.
      let old = state g.S.Store c.args.tx.now.conn.now in
      let new = state g.S.Store c.update.new.tx.conn.now in
      let row = c.args.row.now in
      let gone : Tables → Tables = g.T.Stored.without_row (g.T.Stored.key row) in
      let here : Tables → Tables = λ t. g.T.Stored.with_row row (gone t) in
      subst (λ b. Changes (cond b here gone) old new) c.if-stood.true (c.in_ok-stood.ensures.written clean at);
}

pub returns : goal.returns
returns g c = record {
  inside = search rules;
  written = λ clean at.
      let old = state g.S.Store c.args.tx.now.conn.now in
      let mid = state g.S.Store c.update.new.tx.conn.now in
      let new = state g.S.Store c.insert.new.tx.conn.now in
      let row = c.args.row.now in
      let gone : Tables → Tables = g.T.Stored.without_row (g.T.Stored.key row) in
      let here : Tables → Tables = λ t. g.T.Stored.with_row row (gone t) in
      let before : HasCleanDisk mid = omega (arith, c.insert.ensures.inside.crash.clean) in
      let missed : Changes gone old mid = subst (λ b. Changes (cond b here gone) old mid) c.if-stood.false (c.in_ok-stood.ensures.written before at) in
      on_ok c.insert.result (Changes (g.T.Stored.with_row row) mid new) _ (c.insert.ensures.written clean (inside_after gone old mid missed))
      (λ h. then_changes gone (g.T.Stored.with_row row) old mid new missed h);
}
