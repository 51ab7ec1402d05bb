use Rattle.std.proofs.Common.{[], ◌∷◌, map, rules}
use Rattle.std.specs.Prelude.{Vec, IfOk}
use Rattle.std.specs.declared.alloc.Global.{Global}
use Rattle.sqlite_value.specs.declared.value.Value.TheVariants.{Blob}
use Rattle.sqlite.specs.Held.{state}
use Rattle.sqlite.specs.State.{Shown}
use Rattle.file_rows.specs.declared.rows.Token.{Token}
use Rattle.file_rows.specs.Rows.{token_row}
use Rattle.file_rows.specs.Fit.{IsFitToken}
use Rattle.file_reads.proofs.Causes.{if_err, refuses}
use Rattle.file_reads.proofs.Loads.{if_ok, unchanged}
use Rattle.file_reads.proofs.LookupLemmas.{token_text, digest_test, token_is, finds_token}
use Rattle.file_reads.proofs.lookups.find_token.Goals as goal

pub returns : goal.returns
returns g c = record {
  same = search rules;
  found = λ clean known.
      let old = state g.S.Store c.args.tx.now.conn.now in
      let new = state g.S.Store c.rows_of.new.tx.conn.now in
      let shown : IfOk c.rows_of.result (λ all. Shown token_text (Blob c.args.digest.now ∷ []) old new (map token_row all.items)) = (c.rows_of.ensures.shown clean) in
      if_ok c.rows_of.result _ _ shown (λ (all : Vec Token Global) h. finds_token c.args.digest.now old new known all.items h);
  refused = λ clean known.
      let old = state g.S.Store c.args.tx.now.conn.now in
      let new = state g.S.Store c.rows_of.new.tx.conn.now in
      if_err c.rows_of.result _ _ (c.rows_of.ensures.refused clean (token_is.reads old.now.schema)) (λ e. refuses token_row IsFitToken token_text 22 digest_test token_is (Blob c.args.digest.now ∷ []) old new known e);
  still = λ clean known.
      let old = state g.S.Store c.args.tx.now.conn.now in
      let new = state g.S.Store c.rows_of.new.tx.conn.now in
      let shown : IfOk c.rows_of.result (λ all. Shown token_text (Blob c.args.digest.now ∷ []) old new (map token_row all.items)) = (c.rows_of.ensures.shown clean) in
      if_ok c.rows_of.result _ _ shown (λ (all : Vec Token Global) h. unchanged token_text (Blob c.args.digest.now ∷ []) old new token_is.asks.1 known (map token_row all.items) h);
  kept = search rules;
  crash = search rules;
}
