use Rattle.std.proofs.Common.{Ok, [], ◌∷◌, ◌-◌, arith, subst, rules}
use Rattle.sqlite.specs.Held.{state}
use Rattle.sqlite.specs.State.{Executes}
use Rattle.file_rows.specs.Cells.{number}
use Rattle.file_rows.specs.Changes.{ChangesFit}
use Rattle.file_writes.specs.Removed.{AreApart, without_past}
use Rattle.file_writes.proofs.RemovedLemmas.{forget_text, forgets, forgets_nothing}
use Rattle.file_writes.proofs.kept.forget.Goals as goal

pub returns-then-now-lt-A_DAY : goal.returns-then-now-lt-A_DAY
returns-then-now-lt-A_DAY g c = record {
  inside = search rules;
  written = λ clean at. forgets_nothing (state g.S.Store c.args.tx.now.conn.now) c.args.at at (omega (arith, c.if-now-lt-A_DAY.true, c.get-now.ensures.value));
}

pub returns : goal.returns
returns g c = record {
  inside = search rules;
  written = λ clean at.
      let old = state g.S.Store c.args.tx.now.conn.now in
      let new = state g.S.Store c.run.new.tx.conn.now in
      let now = c.get-now.result in
      let ran : Executes forget_text (number (now - 86400) ∷ []) old new (Ok c.in_ok-run.field-0) = rw c.in_ok-since.ensures.value at (c.in_ok-run.ensures.ran clean at.inside) in
      subst (λ n. ChangesFit (λ t. AreApart (λ r. r.rowid) t.kept) (without_past n) old new) c.get-now.ensures.value
      (forgets old new at c.run.ensures.inside.crash.limit now (omega (arith, c.if-now-lt-A_DAY.false)) c.in_ok-run.field-0 ran);
}
