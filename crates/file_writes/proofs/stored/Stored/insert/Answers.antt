use Rattle.std.proofs.Common.{Ok, rules}
use Rattle.sqlite.specs.Held.{state}
use Rattle.sqlite.specs.State.{Executes}
use Rattle.file_writes.proofs.StatementLemmas.{adds}
use Rattle.file_writes.proofs.stored.Stored.insert.Goals as goal

pub returns : goal.returns
returns g c = record {
  inside = search rules;
  written = λ clean at.
      let old = state g.S.Store c.args.tx.now.conn.now in
      let new = state g.S.Store c.run.new.tx.conn.now in
      let text = c.statements.result in
      let row = c.args.self.now in
      let count = c.in_ok-run.field-0 in
      let ran : Executes text.insert.now (g.Self.Stored.as_row row) old new (Ok count) = c.in_ok-run.ensures.ran clean at.inside in
      adds g.Self.Stored.as_row g.Self.Stored.key g.Self.Stored.with_row g.Self.Stored.without_row text.insert.now text.update.now text.remove.now c.statements.ensures old new at c.run.ensures.inside.crash.limit row count ran;
}
