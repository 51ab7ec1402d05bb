use Rattle.std.proofs.Common.{Ok, [], ◌∷◌, refl, rules}
use Rattle.sqlite.specs.Held.{state}
use Rattle.sqlite.specs.State.{Executes}
use Rattle.file_rows.specs.Cells.{number}
use Rattle.file_writes.proofs.RemovedLemmas.{removes_owned}
use Rattle.file_writes.proofs.members.remove_members.Goals as goal

pub returns : goal.returns
returns g c = record {
  inside = search rules;
  written = λ clean at.
      let old = state g.S.Store c.args.tx.now.conn.now in
      let new = state g.S.Store c.run_bound.new.tx.conn.now in
      let sql = c.delete_by_owner.result.now in
      let count = c.in_ok-run_bound.field-0 in
      let ran : Executes sql (number c.args.owner ∷ []) old new (Ok count) = c.in_ok-run_bound.ensures.ran clean at.inside (number c.args.owner ∷ []) (c.bind.ensures.value, refl) in
      removes_owned sql g.T.Stored.as_row g.T.Numbered.number_of g.T.Member.owner_of g.T.Member.rows g.T.Member.with_rows c.delete_by_owner.ensures c.args.owner count old new at c.run_bound.ensures.inside.crash.limit ran;
}
