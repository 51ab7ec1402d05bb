use Rattle.std.proofs.Common.{Ok, [], ◌∷◌, refl, rules}
use Rattle.sqlite.specs.Held.{state}
use Rattle.sqlite.specs.State.{Executes}
use Rattle.file_rows.specs.Cells.{number}
use Rattle.file_writes.proofs.StatementLemmas.{removes}
use Rattle.file_writes.proofs.stored.Stored.remove.Goals as goal

pub returns : goal.returns
returns g c = record {
  inside = search rules;
  written = λ clean at.
      let old = state g.S.Store c.args.tx.now.conn.now in
      let new = state g.S.Store c.run_bound.new.tx.conn.now in
      let text = c.statements.result in
      let count = c.in_ok-run_bound.field-0 in
      let ran : Executes text.remove.now (number c.args.id ∷ []) old new (Ok count) = c.in_ok-run_bound.ensures.ran clean at.inside (number c.args.id ∷ []) (c.bind.ensures.value, refl) in
      removes g.Self.Stored.as_row g.Self.Stored.key g.Self.Stored.with_row g.Self.Stored.without_row text.insert.now text.update.now text.remove.now c.statements.ensures old new at c.run_bound.ensures.inside.crash.limit c.args.id count ran;
}
