use Rattle.std.proofs.Common.{Ok, rules}
use Rattle.sqlite.specs.Held.{state}
use Rattle.sqlite.specs.State.{Executes}
use Rattle.file_rows.specs.declared.rows.KeptRow.{KeptRow}
use Rattle.file_rows.specs.Rows.{kept_row}
use Rattle.file_writes.proofs.KeptLemmas.{insert_text, adds}
use Rattle.file_writes.proofs.kept.keep.Goals as goal

pub returns : goal.returns
returns g c = record {
  inside = search rules;
  written = λ clean at.
      let old = state g.S.Store c.args.tx.now.conn.now in
      let new = state g.S.Store c.run.new.tx.conn.now in
      let row : KeptRow = record { rowid = c.args.number; kept = c.args.kept.now } in
      let ran : Executes insert_text (kept_row row) old new (Ok c.in_ok-run.field-0) = rw (c.in_ok-rowid.ensures.value, c.in_ok-token_id.ensures.value, c.in_ok-request_key.ensures.value, c.in_ok-first_moment.ensures.value, c.in_ok-status.ensures.value, c.bind_methods-allow.ensures, c.in_ok-body.ensures.value) at (c.in_ok-run.ensures.ran clean at.inside) in
      adds old new at c.run.ensures.inside.crash.limit row c.in_ok-run.field-0 ran;
}
