use Rattle.std.proofs.Common.{sym, ◌∙◌, subst}
use Rattle.base_values.specs.Texts.{same_text}
use Rattle.model_rows.specs.declared.rows.Voucher.{Voucher}
use Rattle.model_rows.specs.Kept.{IsKept}
use Rattle.draft_overlay.specs.Logs.{Log, rows_of}
use Rattle.draft_overlay.specs.Coded.{IsLeast, HasCode}
use Rattle.draft_overlay.proofs.Coded.{code_least, first_some, first_none}
use Rattle.draft_overlay.proofs.Kept.{kept_after_all}
use Rattle.draft_overlay.proofs.overlay.Overlay.voucher_of.Goals as goal

pub returns-in-None : goal.returns-in-None
returns-in-None g c =
    let log = c.args.self.now in
    let code = c.args.code.now in
    let kept = kept_after_all 4294967296 log.changes log.base (subst (λ (l : Log). IsKept 4294967296 l.base) c.self.view_is c.recall_invariant.ensures) in
    let least = subst (λ o. IsLeast (HasCode code log) o) (sym c.lesser.ensures ∙ c.in-None.is) (code_least code log c.unchanged_of.result c.put_of.result c.unchanged_of.ensures c.put_of.ensures) in
    sym (first_none (λ (v : Voucher). v.id) (λ v. same_text v.code code) (rows_of log).vouchers kept.vouchers.in_order least)

pub returns-in-Some : goal.returns-in-Some
returns-in-Some g c =
    let log = c.args.self.now in
    let code = c.args.code.now in
    let kept = kept_after_all 4294967296 log.changes log.base (subst (λ (l : Log). IsKept 4294967296 l.base) c.self.view_is c.recall_invariant.ensures) in
    let least = subst (λ o. IsLeast (HasCode code log) o) (sym c.lesser.ensures ∙ c.in-Some.is) (code_least code log c.unchanged_of.result c.put_of.result c.unchanged_of.ensures c.put_of.ensures) in
    c.voucher.ensures ∙ sym (first_some (λ (v : Voucher). v.id) (λ v. same_text v.code code) (rows_of log).vouchers c.in-Some.id kept.vouchers.in_order least)
