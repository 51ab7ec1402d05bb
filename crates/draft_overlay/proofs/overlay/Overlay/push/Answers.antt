use Rattle.std.proofs.Common.{ℕ, List, [], ◌∷◌, ◌++◌, length-append, ap, sym, ◌∙◌, subst, arith}
use Rattle.draft_overlay.specs.Logs.{Log, IsSale, rows_of}
use Rattle.book_log.specs.Keys.{code_keys}
use Rattle.draft_overlay.proofs.Sales.{sales_more}
use Rattle.draft_overlay.proofs.CodeKeys.{when_ok, keys_push}
use Rattle.draft_overlay.proofs.overlay.Overlay.push.Goals as goal

pub invariant_of-self-else-is_err : goal.invariant_of-self-else-is_err
invariant_of-self-else-is_err g c =
    let log = c.self.inside.log in
    let before = c.self.invariant in
    let is = subst (λ (log : Log). IsSale c.args.change (rows_of log)) (sym c.self.view_is) c.requires in
    let pushed = when_ok _ c.push-else-count-eq-MOST_CHANGES.result (sym c.is_err.ensures.value ∙ c.if-is_err.false) c.push-else-count-eq-MOST_CHANGES.ensures.ok in
    rw (pushed, c.in_ok-push.ensures.ok)
    (record {
      few = omega (arith, before.few, c.len-count.ensures, length-append log (c.args.change ∷ []));
      sales = sales_more log c.args.change _ before.sales is;
      codes_are = ap (λ (l : List ℕ). l ++ c.code_key-key.result ∷ []) before.codes_are ∙ ap (λ (k : ℕ). code_keys log ++ k ∷ []) c.code_key-key.ensures ∙ sym (keys_push log c.args.change);
    })
