use Rattle.std.proofs.Common.{[], ◌∷◌, map, rules}
use Rattle.std.specs.Prelude.{Vec, IfOk}
use Rattle.std.specs.declared.alloc.Global.{Global}
use Rattle.sqlite_value.specs.declared.value.Value.TheVariants.{Blob}
use Rattle.sqlite.specs.Held.{state}
use Rattle.sqlite.specs.State.{Shown}
use Rattle.file_rows.specs.declared.rows.KeptRow.{KeptRow}
use Rattle.file_rows.specs.Cells.{number}
use Rattle.file_rows.specs.Rows.{kept_row}
use Rattle.file_rows.specs.Fit.{IsFitKept}
use Rattle.file_reads.proofs.Causes.{if_err, refuses}
use Rattle.file_reads.proofs.Loads.{if_ok, unchanged}
use Rattle.file_reads.proofs.LookupLemmas.{kept_text, key_test, kept_is, finds_kept}
use Rattle.file_reads.proofs.lookups.find_kept.Goals as goal

pub returns : goal.returns
returns g c = record {
  same = search rules;
  found = λ clean known.
      let old = state g.S.Store c.args.tx.now.conn.now in
      let new = state g.S.Store c.rows_of.new.tx.conn.now in
      let shown : IfOk c.rows_of.result (λ all. Shown kept_text (number c.args.token ∷ Blob c.args.key.now ∷ []) old new (map kept_row all.items)) = rw c.in_ok-id.ensures.value at (c.rows_of.ensures.shown clean) in
      if_ok c.rows_of.result _ _ shown (λ (all : Vec KeptRow Global) h. finds_kept c.args.token c.args.key.now old new known all.items h);
  refused = λ clean known.
      let old = state g.S.Store c.args.tx.now.conn.now in
      let new = state g.S.Store c.rows_of.new.tx.conn.now in
      let refused = rw c.in_ok-id.ensures.value at (c.rows_of.ensures.refused clean) in
      if_err c.rows_of.result _ _ (refused (kept_is.reads old.now.schema)) (λ e. refuses kept_row IsFitKept kept_text 24 key_test kept_is (number c.args.token ∷ Blob c.args.key.now ∷ []) old new known e);
  still = λ clean known.
      let old = state g.S.Store c.args.tx.now.conn.now in
      let new = state g.S.Store c.rows_of.new.tx.conn.now in
      let shown : IfOk c.rows_of.result (λ all. Shown kept_text (number c.args.token ∷ Blob c.args.key.now ∷ []) old new (map kept_row all.items)) = rw c.in_ok-id.ensures.value at (c.rows_of.ensures.shown clean) in
      if_ok c.rows_of.result _ _ shown (λ (all : Vec KeptRow Global) h. unchanged kept_text (number c.args.token ∷ Blob c.args.key.now ∷ []) old new kept_is.asks.1 known (map kept_row all.items) h);
  kept = search rules;
  crash = search rules;
}
